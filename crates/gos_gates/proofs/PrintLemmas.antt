-- Lines that are added one behind the other.
use Rattle.std.proofs.Common.{◌≡◌, ℕ, suc, ◌+◌, ◌-◌, ◌*◌, ◌<◌, List, ◌++◌, sym, ◌∙◌, ap, arith, append_assoc}
use Rattle.gos_gates.specs.AagText.{last, input_lines}

-- the line of one more input
pub one_input_more : (old new whole : List ℕ) (i n count : ℕ) → i < count → n ≡ 2 * (i + 1) → new ≡ old ++ last n
    → old ++ input_lines (i + 1) (count - i) ≡ whole → new ++ input_lines (i + 1 + 1) (count - (i + 1)) ≡ whole
one_input_more old new whole i n count some is more known =
    let left : ℕ = count - (i + 1) in
    let fewer : count - i ≡ suc left = omega (arith, some) in
    let rest : List ℕ = input_lines (i + 1 + 1) left in
    let lines : input_lines (i + 1) (count - i) ≡ last n ++ rest = ap (input_lines (i + 1)) fewer ∙ ap (λ (m : ℕ). last m ++ rest) (sym is) in
    ap (λ front. front ++ rest) more ∙ (append_assoc old (last n) rest ∙ (ap (λ behind. old ++ behind) (sym lines) ∙ known))
