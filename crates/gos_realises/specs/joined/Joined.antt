-- That there are joinings: of all links that fit, and so of all that realising speaks of.
--
-- Read first: Links, Fitting of realises. No clause of realising holds because what it speaks of can't be joined. So a variable that
-- is realised is written.
use Rattle.std.specs.Prelude.{◌≡◌, ℕ, List}
use Rattle.gos_types.specs.Types.{Type', Var, Pair, Fun}
use Rattle.gos_types.specs.Widths.{IsWidth}
use Rattle.gos_model.specs.Terms.{Term}
use Rattle.gos_plan.specs.Plans.{Plan, IsRight}
use Rattle.gos_plan.specs.Joining.{Wiring}
use Rattle.gos_realises.specs.realises.Regular.{count}
use Rattle.gos_realises.specs.realises.Links.{LinksFit, IsJoined}
use Rattle.gos_realises.specs.realises.Wirings.{reading, writing, side, applying}
use Rattle.gos_realises.specs.realises.Realises.{Realises}
use Rattle.gos_realises.specs.realises.Modules.{Supply, AreSupplied, supplying}

-- a joining of a wiring
abbrev pub HasJoining : Wiring → Type 0
HasJoining w = (r : Plan) × IsJoined w r

-- Of plans that fit there is a joining. A ring of links leaves no joint.
abbrev pub FittingIsJoined : Type 0
FittingIsJoined = (w : Wiring) → LinksFit w → HasJoining w

-- of a plan of a function and one of its argument
abbrev pub AppliedIsJoined : Type 0
AppliedIsJoined =
    (a b : Type') (p q : Plan) → IsRight p → IsRight q → p.outcome ≡ Fun a b → q.outcome ≡ a → HasJoining (applying a b p q)

-- of each side of a product alone
abbrev pub SidesAreJoined : Type 0
SidesAreJoined = (a b : Type') (p : Plan) → IsRight p → p.outcome ≡ Pair a b → HasJoining (side 0 a p) × HasJoining (side (count a) b p)

-- of a variable that is read, and of one that is written
abbrev pub VariablesAreJoined : Type 0
VariablesAreJoined =
    (w k : ℕ) (p : Plan) → IsRight p → p.outcome ≡ Var w → HasJoining (reading w p) × HasJoining (writing w k p)

-- of what is supplied
abbrev pub SuppliedIsJoined : Type 0
SuppliedIsJoined = (p : Plan) (ss : List Supply) → IsRight p → AreSupplied p.imports ss → HasJoining (supplying p ss)

-- So a variable that is realised has a width, since a number of its width is written to it.
abbrev pub VariablesHaveWidths : Type 0
VariablesHaveWidths = (w : ℕ) (p : Plan) (m : Term) → Realises (Var w) p m → IsWidth w
