-- Names that stand once in a list.
use Rattle.std.proofs.Common.{◌≡◌, ◌<◌, ◌∙◌, ℕ, zero, suc, List, [], ◌∷◌, length, ap, sym, arith}
use Rattle.std.proofs.lemmas.Option.{none-some}
use Rattle.gos_expand.specs.Acceptance.{AreDifferent}

-- one name alone
pub one_name : (name : List ℕ) → AreDifferent (name ∷ [])
one_name name i zero a b low is there = absurd (omega (arith, low))
one_name name i (suc j) a b low is there = absurd (none-some b there)

-- two names of different lengths
pub two_names : (a b : List ℕ) → length a < length b → AreDifferent (b ∷ a ∷ [])
two_names a b less i zero x y low is there same = absurd (omega (arith, low))
two_names a b less zero (suc zero) x y low is there same =
    let first : b ≡ x = cc is in
    let second : a ≡ y = cc there in
    let lengths = ap (λ (ns : List ℕ). length ns) (first ∙ (same ∙ sym second)) in
    absurd (omega (arith, less, lengths))
two_names a b less (suc i) (suc zero) x y low is there same = absurd (omega (arith, low))
two_names a b less i (suc (suc j)) x y low is there same = absurd (none-some y there)
