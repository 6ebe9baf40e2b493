-- A function and its argument: joined and then supplied, or supplied and then joined.
--
-- Read first: Modules of gos_realises; Flat of gos_joining; Renumbered of gos_joining.
use Rattle.std.specs.Prelude.{◌≡◌, ◌++◌, List, []}
use Rattle.gos_types.specs.Types.{Type', Fun}
use Rattle.gos_model.specs.Terms.{Term, App}
use Rattle.gos_model.specs.Typing.{Typed}
use Rattle.gos_plan.specs.Plans.{Plan, IsRight}
use Rattle.gos_realises.specs.realises.Links.{IsJoined}
use Rattle.gos_realises.specs.realises.Wirings.{applying}
use Rattle.gos_realises.specs.realises.Realises.{NamesDiffer}
use Rattle.gos_realises.specs.realises.Modules.{Supply, AreSupplied, supplying, RealisesOpen}
use Rattle.gos_joining.specs.webs.Renumbering.{Renumber, IsRenumbered}

-- The plan s of an application, with supplies, is one but for numbers with the plan r of a function with its supplies applied
-- to an argument with its own: both are the joining of the two plans and all supplies.
abbrev pub AppliedIsSupplied : Type 0
AppliedIsSupplied =
    (a b : Type') (p q s x y r z : Plan) (ss ts : List Supply)
    → IsJoined (applying a b p q) s → AreSupplied p.imports ss → AreSupplied q.imports ts → IsJoined (supplying p ss) x → IsJoined (supplying q ts) y
    → IsJoined (applying a b x y) r → IsJoined (supplying s (ss ++ ts)) z → (g : Renumber) × IsRenumbered g z r

-- So the plan of an application realises it, with any supplies, where the plans of the function and of the argument do. The
-- names of all imports differ, and each term has its type under those of its own plan.
abbrev pub ApplicationIsRealised : Type 0
ApplicationIsRealised =
    (a b : Type') (p q s : Plan) (m n : Term)
    → IsRight p → IsRight q → p.outcome ≡ Fun a b → q.outcome ≡ a → NamesDiffer s.imports → Typed p.imports [] m (Fun a b) → Typed q.imports [] n a
    → IsJoined (applying a b p q) s → RealisesOpen p m → RealisesOpen q n → RealisesOpen s (App m n)
