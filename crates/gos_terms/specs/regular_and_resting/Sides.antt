-- The two sides of `M := N`: their plans are what the stages of a write have to be, with imports of any types.
--
-- Read first: Rests of gos_supplies; Written of gos_nodes.
use Rattle.std.specs.Prelude.{◌≡◌, ℕ}
use Rattle.gos_types.specs.Types.{Exp, Var}
use Rattle.gos_plan.specs.Plans.{Plan, IsRight}
use Rattle.gos_realises.specs.realises.Regular.{IsRegular}
use Rattle.gos_supplies.specs.turns.Rests.{Rests}
use Rattle.gos_nodes.specs.windows.OneSession.{IsRegularAt, IsRestfulAt}
use Rattle.gos_nodes.specs.assignments.Written.{unread}

-- The plan of an expression, where it is asked.
abbrev pub NumberIsSteady : Type 0
NumberIsSteady = (w : ℕ) (p : Plan) → p.outcome ≡ Exp w → IsRegular p → Rests p → IsRegularAt 0 p × IsRestfulAt 0 p

-- The plan of a variable without the joint by which it is read, where it is written.
abbrev pub VariableIsSteady : Type 0
VariableIsSteady =
    (w : ℕ) (p : Plan) → IsRight p → p.outcome ≡ Var w → IsRegular p → Rests p → IsRegularAt 1 (unread p) × IsRestfulAt 1 (unread p)
