-- The ties of supplies: within a supply, or from its number's handshake to its result.
use Rattle.std.specs.Prelude.{◌≡◌, ℕ, zero, suc, List, ◌⊎◌, Contains}
use Rattle.std.proofs.Common.{subst, arith, inl, inr}
use Rattle.std.proofs.lemmas.List.Elements.{Contains-append_cases}
use Rattle.gos_plan.specs.Plans.{ResultEnd}
use Rattle.gos_realises.specs.realises.Regular.{count}
use Rattle.gos_joining.specs.webs.Webs.{Dot, Of, Number, Within, Tie, tie, Way, here, along, own_web}
use Rattle.gos_joining.specs.unions.Unions.{within}
use Rattle.gos_joining.proofs.unions.UnionLemmas.{Image, of_image}
use Rattle.gos_compile.specs.Wiring.{Types}
use Rattle.gos_terms.specs.wired.Wired.{Supplies, result_ties, supply_ties, all_supply_ties}
use Rattle.gos_terms.proofs.wired.TieLemmas.{OfSupplies, of_supplies}

-- a tie, in web n of several
abbrev pub inside : ℕ → Tie → Tie
inside n t = tie (Within n t.one) (Within n t.other)

abbrev pub result_tie : ℕ → ℕ → Tie
result_tie n h = tie (Within 0 (Number n h)) (Within (suc n) (Of (ResultEnd h)))

-- a tie of the supply of number n
abbrev pub IsSupplyTie : ℕ → Tie → Type 0
IsSupplyTie n t = ((y : Tie) × (inside (suc n) y ≡ t)) ⊎ ((h : ℕ) × (result_tie n h ≡ t))

of_results : (n a m : ℕ) (t : Tie) → Contains (result_ties n a m) t → (h : ℕ) × (result_tie n h ≡ t)
of_results n a zero t (k, small, e) = absurd (omega (arith, small))
of_results n a (suc m) t (zero, small, e) = (a, e)
of_results n a (suc m) t (suc k, small, e) = of_results n (suc a) m t (k, omega (arith, small), e)

pub of_supply : (types : Types) (env : Supplies) (n : ℕ) (t : Tie) → Contains (supply_ties types env n) t → IsSupplyTie n t
of_supply types env n t has =
    by_part (Contains-append_cases (within (suc n) (own_web (env n).plan).ties) (result_ties n 0 (count (types n))) t has)
  where
    by_image : Image (inside (suc n)) (own_web (env n).plan).ties t → IsSupplyTie n t
    by_image (y, among, same) = inl (y, same)

    by_part : Contains (within (suc n) (own_web (env n).plan).ties) t ⊎ Contains (result_ties n 0 (count (types n))) t → IsSupplyTie n t
    by_part (inl inner) = by_image (of_image (inside (suc n)) (own_web (env n).plan).ties t inner)
    by_part (inr result) = inr (of_results n 0 (count (types n)) t result)

abbrev pub OfNumber : List ℕ → Tie → Type 0
OfNumber ns t = (n : ℕ) × Contains ns n × IsSupplyTie n t

pub of_number : (types : Types) (env : Supplies) (ns : List ℕ) (t : Tie) → Contains (all_supply_ties types env ns) t → OfNumber ns t
of_number types env ns t has = onto (of_supplies types env ns t has)
  where
    onto : OfSupplies types env ns t → OfNumber ns t
    onto (n, has_n, inner) = (n, has_n, of_supply types env n t inner)

-- one tie is a way
pub tied : (ts : List Tie) (t : Tie) → Contains ts t → Way ts t.one t.other
tied ts t has = along t.one t.other t.other (inl has) (here t.other)

pub tied_at : (ts : List Tie) (t : Tie) (a b : Dot) → Contains ts t → t.one ≡ a → t.other ≡ b → Way ts a b
tied_at ts t a b has one other =
    subst (λ (x : Dot). Way ts x b) one (subst (λ (x : Dot). Way ts t.one x) other (tied ts t has))
