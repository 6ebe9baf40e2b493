-- The plan of a call rests, and one that leads its Seq's first request past its child does not.
use Rattle.std.specs.Prelude.{Bool, true, false, List, Some, None, if◌then◌else◌}
use Rattle.std.proofs.Common.{◌≡◌, [], ◌∷◌, refl, arith}
use Rattle.gos_types.specs.Events.{Request, Answer}
use Rattle.gos_plan.specs.Firing.{Rest, First, Req, row, at, put, Ans}
use Rattle.gos_plan.specs.Plans.{ResultEnd, same_end}
use Rattle.gos_plan.specs.Tokens.{Tokens, Element, Fire, Out, In, with_place, fired, Runs}
use Rattle.gos_supplies.specs.turns.Rests.{passes, AllShut}
use Rattle.gos_supplies.specs.turns.SmallTurned.{called, CallRests, astray, AstrayDoesNotRest}
use Rattle.gos_supplies.proofs.turns.NameLemmas.{name_rests}
use Rattle.gos_supplies.proofs.turns.SmallTurnedLemmas.{call_is_name}
use Rattle.gos_plan.specs.SmallCalls.{call_plan}

pub call_rests : CallRests
call_rests = name_rests called call_plan call_is_name

abbrev at_first : Tokens
at_first = record { in_place = λ way e. None; state = λ i. at Rest 0 }

abbrev asked : Tokens
asked = with_place Request (ResultEnd 0) (Some 0) at_first

abbrev passed_by : Tokens
passed_by = fired astray 0 (row (Req 2) (at First 0) (λ v. put (Req 0) 0)) 0 asked

abbrev answered : Tokens
answered = fired astray 1 (row (Req 0) (at Rest 0) (λ v. put (Ans 0) 0)) 0 passed_by

abbrev at_last : Tokens
at_last = with_place Answer (ResultEnd 0) None answered

abbrev list : List Element
list = In (ResultEnd 0) 0 ∷ Fire 0 (Req 2) ∷ Fire 1 (Req 0) ∷ Out (ResultEnd 0) 0 ∷ []

runs : Runs astray list at_first at_last
runs = (
  asked,
  (tt, (omega arith, refl)),
  (
    passed_by,
    (0, row (Req 2) (at First 0) (λ v. put (Req 0) 0), refl, refl, refl),
    (answered, (0, row (Req 0) (at Rest 0) (λ v. put (Ans 0) 0), refl, refl, refl), (at_last, (tt, (refl, refl)), refl)),
  ),
)

shut : AllShut (passes astray [] list)
shut e = by_test (same_end (ResultEnd 0) e)
  where
    by_test : (b : Bool) → (if b then false else (if b then true else false)) ≡ false
    by_test true = refl
    by_test false = refl

pub astray_does_not_rest : AstrayDoesNotRest
astray_does_not_rest rests =
    let rest : First ≡ Rest = (rests at_first at_last list ((λ way e. refl), (λ i. refl)) runs ((refl, tt), tt) shut).1 0 in cc rest
