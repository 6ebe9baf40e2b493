-- Where the handshakes of a small child lead.
use Rattle.std.specs.Prelude.{◌≡◌, zero, suc}
use Rattle.std.proofs.Common.{refl, sym, ◌∙◌, arith}
use Rattle.gos_terms.specs.stages.Folding.{Lead, AtOwn, AtResult}
use Rattle.gos_terms.specs.stages.SmallLeads.{LeadsStand, TwoAreDistinct, TwiceIsNotDistinct}

pub leads_stand : LeadsStand
leads_stand = (refl, refl, refl)

apart : (l : Lead) → AtOwn 1 ≡ l → AtResult 0 ≡ l → ⊥
apart l one other = let clash : AtOwn 1 ≡ AtResult 0 = one ∙ sym other in cc clash

pub two_are_distinct : TwoAreDistinct
two_are_distinct zero zero l one other = refl
two_are_distinct zero (suc zero) l one other = absurd (apart l (cc one) (cc other))
two_are_distinct (suc zero) zero l one other = absurd (apart l (cc other) (cc one))
two_are_distinct (suc zero) (suc zero) l one other = refl
two_are_distinct zero (suc (suc k)) l one other = absurd (cc other)
two_are_distinct (suc zero) (suc (suc k)) l one other = absurd (cc other)
two_are_distinct (suc (suc h)) k l one other = absurd (cc one)

pub twice_is_not_distinct : TwiceIsNotDistinct
twice_is_not_distinct are = let same = are 0 1 (AtResult 0) refl refl in omega (arith, same)
