use Rattle.std.proofs.Common.{◌≡◌, ◌++◌, ◌-◌, ℕ, List, length, take, drop, sym, ◌∙◌, ap, arith, length-append}
use Rattle.std.proofs.Math.Seq.{drop-append_seam}
use Rattle.std.proofs.lemmas.List.{take-append-drop}
use Rattle.std.proofs.lemmas.Slice.Eq.{bytes_eq-Decides}
use Rattle.gos_lex.proofs.PlaceLemmas.{rest_whole}
use Rattle.gos_verilog.proofs.ports_of.ends_with.Goals as goal

-- the last bytes, as the code takes them
abbrev last : List ℕ → List ℕ → List ℕ
last bytes end = take (length bytes - (length bytes - length end)) (drop (length bytes - length end) bytes)

last_is : (bytes end front : List ℕ) → bytes ≡ front ++ end → last bytes end ≡ end
last_is bytes end front is =
    let size : length bytes - length end ≡ length front = omega (arith, ap length is, length-append front end) in
    rest_whole bytes (length bytes - length end) ∙ ((λ i. drop (size i) (is i)) ∙ drop-append_seam front end)

pub returns-then-bytes-end-clause-is : goal.returns-then-bytes-end-clause-is
returns-then-bytes-end-clause-is c front is =
    let bytes = c.args.bytes.now in
    let end = c.args.end.now in
    c.eq.ensures ∙ (bytes_eq-Decides (last bytes end) end).1 (last_is bytes end front is)

pub returns-then-bytes-end-clause-only : goal.returns-then-bytes-end-clause-only
returns-then-bytes-end-clause-only c is =
    let bytes = c.args.bytes.now in
    let end = c.args.end.now in
    let at : ℕ = length bytes - length end in
    let same : last bytes end ≡ end = (bytes_eq-Decides (last bytes end) end).0 (sym c.eq.ensures ∙ is) in
    (take at bytes, sym (take-append-drop at bytes) ∙ ap (λ (b : List ℕ). take at bytes ++ b) (sym (rest_whole bytes at) ∙ same))
