-- A plan alone: joined to nothing it is itself, but for the order of its joints, which nobody sees.
--
-- Read first: Modules. So a plan without imports realises a module where it realises its term.
use Rattle.gos_model.specs.Terms as terms
use Rattle.gos_model.specs.Terms.{Term}
use Rattle.gos_plan.specs.Plans.{Plan, IsRight}
use Rattle.gos_plan.specs.Joining.{IsJoining, IsSameButOrder}
use Rattle.gos_plan.specs.SmallPlans.{skip_plan}
use Rattle.gos_realises.specs.realises.Regular.{IsRegular}
use Rattle.gos_realises.specs.realises.Matched.{RealisesInTurn}
use Rattle.gos_realises.specs.realises.Wirings.{side}
use Rattle.gos_realises.specs.realises.Modules.{RealisesModule}

-- the joining of one plan without links is that plan
abbrev pub AloneIsItself : Type 0
AloneIsItself = (p r : Plan) → IsRight p → IsJoining (side 0 p.outcome p) r → IsSameButOrder r p

-- a plan whose joints stand in another order is regular, and realises a program of a ground type, where the plan does
abbrev pub OrderIsFree : Type 0
OrderIsFree =
    (p r : Plan)
    → IsRight p → IsRight r → IsSameButOrder r p → (IsRegular p → IsRegular r) × ((m : Term) → RealisesInTurn p m → RealisesInTurn r m)

-- the plan of `skip` realises the module `export skip`
abbrev pub SkipModuleIsRealised : Type 0
SkipModuleIsRealised = RealisesModule skip_plan terms.Skip
