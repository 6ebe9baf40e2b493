-- The plans of `skip` and of a number realise these with any supplies.
use Rattle.std.proofs.Common.{refl}
use Rattle.gos_types.specs.Types.{Com}
use Rattle.gos_model.specs.Terms as terms
use Rattle.gos_plan.specs.SmallPlans.{skip_plan}
use Rattle.gos_realises.proofs.realises.SkipLemmas.{skip_is_realised}
use Rattle.gos_joining.specs.renumbered.SmallRewirings.{unchanged}
use Rattle.gos_joining.proofs.renumbered.HigherLemmas.{renumbered_is_realised}
use Rattle.gos_supplies.specs.literals.Literals.{number_plan, done_plan, DoneIsRealised, LiteralIsOpen, DoneIsOpen}
use Rattle.gos_supplies.proofs.literals.NumberLemmas.{literal_is_realised}
use Rattle.gos_supplies.proofs.literals.ClosedLemmas.{same_renumbered, closed_is_open}

pub done_is_realised : DoneIsRealised
done_is_realised n =
    let right = skip_is_realised.suits.right in
    renumbered_is_realised unchanged (done_plan n) skip_plan Com terms.Skip
    (same_renumbered (done_plan n) skip_plan refl refl refl (λ a b. ((λ h. h), (λ h. h))) right right)
    skip_is_realised

pub literal_is_open : LiteralIsOpen
literal_is_open n w k width small = closed_is_open (number_plan n w k) (terms.Lit k w) refl (literal_is_realised n w k width small)

pub done_is_open : DoneIsOpen
done_is_open n = closed_is_open (done_plan n) terms.Skip refl (done_is_realised n)
