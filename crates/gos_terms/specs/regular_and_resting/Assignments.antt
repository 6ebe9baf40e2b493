-- The plan of `M := N`, of the plans of its two sides as they lie in it, with imports of any types.
--
-- Read first: Sides; Assignments of gos_nodes (`IsOpenAssignment`); OpenNodes of gos_nodes.
use Rattle.std.specs.Prelude.{◌≡◌, ℕ}
use Rattle.gos_types.specs.Types.{Exp, Var}
use Rattle.gos_plan.specs.Plans.{Plan, IsRight}
use Rattle.gos_realises.specs.realises.Regular.{IsRegular}
use Rattle.gos_supplies.specs.turns.Rests.{Rests}
use Rattle.gos_nodes.specs.windows.Nodes.{Stage}
use Rattle.gos_nodes.specs.assignments.Assignments.{IsOpenAssignment}

-- It is regular and rests where the plans of both sides do.
abbrev pub AssignmentIsSteady : Type 0
AssignmentIsSteady =
    (r : Plan) (d w : ℕ) (number variable : Stage) (p : Plan)
    → IsOpenAssignment r d w number variable p
    → number.plan.outcome ≡ Exp w → IsRegular number.plan → Rests number.plan
    → IsRight p → p.outcome ≡ Var w → IsRegular p → Rests p
    → IsRegular r × Rests r
