use Rattle.std.proofs.Common.{◌≡◌, false, take}
use Rattle.std.specs.List.{list_any}
use Rattle.std.specs.Str.{bytes_eq}
use Rattle.gos_lex.specs.Signs.{sign_text}
use Rattle.gos_lex.proofs.sign.sign_of.Given as goal

-- the bytes are none of the signs so far
abbrev pub invariant-loop-sign : goal.invariant-loop-sign
invariant-loop-sign l = list_any (λ sign. bytes_eq l.bytes (sign_text sign)) (take l.sign-index l.sign-items) ≡ false
