-- The links of the relation fit, so that asking for links that fit leaves nothing out.
--
-- Read first: Realises.
use Rattle.std.specs.Prelude.{◌≡◌, ℕ, List}
use Rattle.gos_types.specs.Types.{Type', Var, Pair, Fun}
use Rattle.gos_plan.specs.Plans.{Plan, IsRight}
use Rattle.gos_realises.specs.realises.Regular.{count}
use Rattle.gos_realises.specs.realises.Links.{LinksFit}
use Rattle.gos_realises.specs.realises.Wirings.{reading, writing, side, applying}
use Rattle.gos_realises.specs.realises.Modules.{Supply, AreSupplied, supplying}

-- a plan of a function and one of its argument
abbrev pub AppliedFits : Type 0
AppliedFits =
    (a b : Type') (p q : Plan) → IsRight p → IsRight q → p.outcome ≡ Fun a b → q.outcome ≡ a → LinksFit (applying a b p q)

-- each side of a product alone
abbrev pub SidesFit : Type 0
SidesFit = (a b : Type') (p : Plan) → IsRight p → p.outcome ≡ Pair a b → LinksFit (side 0 a p) × LinksFit (side (count a) b p)

-- a variable that is read, and one that is written
abbrev pub VariablesFit : Type 0
VariablesFit =
    (w k : ℕ) (p : Plan) → IsRight p → p.outcome ≡ Var w → LinksFit (reading w p) × LinksFit (writing w k p)

-- what is supplied
abbrev pub SuppliedFits : Type 0
SuppliedFits = (p : Plan) (ss : List Supply) → IsRight p → AreSupplied p.imports ss → LinksFit (supplying p ss)
