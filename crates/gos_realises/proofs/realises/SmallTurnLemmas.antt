-- The plan that asks both sides of a product at once: its run, the firing of its Par, and two outputs.
use Rattle.std.specs.Prelude.{List, [], ◌∷◌, Some, None}
use Rattle.std.proofs.Common.{refl, arith}
use Rattle.gos_types.specs.Events.{Request}
use Rattle.gos_plan.specs.Firing.{Both, Req, Row, at, put}
use Rattle.gos_plan.specs.Plans.{ImportEnd, ResultEnd}
use Rattle.gos_plan.specs.Tokens.{Tokens, Element, Fire, Out, In, fired, with_token, Runs}
use Rattle.gos_plan.specs.SmallPlans.{at_first}
use Rattle.gos_realises.specs.realises.Regular.{InputsKeepTurns}
use Rattle.gos_realises.specs.realises.SmallTurns.{both_sides, BothSidesAreNot}
use Rattle.gos_realises.proofs.realises.TraceLemmas.{first_is_idle}

abbrev both_asked : List Element
both_asked = In (ResultEnd 0) 0 ∷ Fire 0 (Req 2) ∷ Out (ImportEnd 0 0) 0 ∷ Out (ImportEnd 0 1) 0 ∷ []

abbrev forks : Row
forks = record { takes = Req 2; next = λ v. at Both 0; puts = λ v. put (Req 0) 0 ∷ put (Req 1) 0 ∷ [] }

abbrev asked : Tokens
asked = with_token both_sides (ResultEnd 0) Request (Some 0) at_first

abbrev forked : Tokens
forked = fired both_sides 0 forks 0 asked

abbrev one_gone : Tokens
one_gone = with_token both_sides (ImportEnd 0 0) Request None forked

abbrev both_gone : Tokens
both_gone = with_token both_sides (ImportEnd 0 1) Request None one_gone

runs : Runs both_sides both_asked at_first both_gone
runs = (
  asked,
  (tt, (omega arith, refl)),
  (forked, (0, forks, refl, refl, refl), (one_gone, (tt, (refl, refl)), (both_gone, (tt, (refl, refl)), refl))),
)

pub both_sides_are_not : BothSidesAreNot
both_sides_are_not regular =
    let inputs : InputsKeepTurns both_sides [] both_asked = ((refl, ((tt, tt, refl), tt, λ e. refl)), tt) in
    let turns = (regular at_first both_gone both_asked (first_is_idle both_sides) runs inputs).1 in
    let (first, ((shut, ((left, right, not_both), outcome, imports)), end)) = turns in
    cc not_both
