-- A plan whose imports are ground realises its term where it does so with any supplies.
--
-- Read first: Modules of gos_realises; Names of names. Each import is supplied with the plan of its own name.
use Rattle.gos_types.specs.Types.{IsDone}
use Rattle.gos_model.specs.Terms.{Term}
use Rattle.gos_plan.specs.Plans.{Plan, IsRight}
use Rattle.gos_realises.specs.realises.Regular.{IsRegular}
use Rattle.gos_realises.specs.realises.Matched.{RealisesDone}
use Rattle.gos_realises.specs.realises.Realises.{AllGround, NamesDiffer, Realises}
use Rattle.gos_realises.specs.realises.Modules.{RealisesOpen, HaveWidths}

-- A plan that realises a term with any supplies realises it with its imports as ports.
abbrev pub OpenIsRealised : Type 0
OpenIsRealised =
    (p : Plan) (m : Term)
    → IsRight p → AllGround p.imports → HaveWidths p.imports → NamesDiffer p.imports → RealisesOpen p m → Realises p.outcome p m

-- so the plan of a command or an expression is regular, and its lists are matched
abbrev pub OpenIsDone : Type 0
OpenIsDone =
    (p : Plan) (m : Term)
    → IsRight p → AllGround p.imports → HaveWidths p.imports → NamesDiffer p.imports → RealisesOpen p m → IsDone p.outcome
    → IsRegular p × RealisesDone p m
