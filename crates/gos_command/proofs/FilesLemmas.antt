-- What the first bytes of a file tell of it.
use Rattle.std.proofs.Common.{◌≡◌, ◌+◌, ◌∙◌, ap, ℕ, List, length, take, arith}
use Rattle.std.proofs.lemmas.List.{take_all, length-take}
use Rattle.gos_command.specs.Files.{IsReadWhole}

pub is_read_whole : (limit : ℕ) (file read : List ℕ) → read ≡ take (limit + 1) file → IsReadWhole limit read file
is_read_whole limit file read e =
    let len = ap length e ∙ length-take (limit + 1) file in
    record { whole = λ h. e ∙ take_all (limit + 1) file (omega (arith, len, h)); short = λ h. e ∙ take_all (limit + 1) file (omega (arith, h)) }
