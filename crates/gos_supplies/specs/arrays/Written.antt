-- A variable to which a number is written: joined and then supplied, or supplied and then joined.
--
-- Read first: Projected of applications, which has the same of a variable that is read.
use Rattle.std.specs.Prelude.{◌≡◌, ℕ, ◌^◌, ◌<◌, List}
use Rattle.gos_types.specs.Types.{Var}
use Rattle.gos_model.specs.Terms.{Term, Assign, Lit}
use Rattle.gos_plan.specs.Plans.{Plan, IsRight}
use Rattle.gos_realises.specs.realises.Links.{IsJoined}
use Rattle.gos_realises.specs.realises.Wirings.{writing}
use Rattle.gos_realises.specs.realises.Modules.{Supply, AreSupplied, supplying, RealisesOpen}
use Rattle.gos_joining.specs.webs.Renumbering.{Renumber, IsRenumbered}

-- The plan s that writes, with supplies, is one but for numbers with the supplied plan of the variable, written.
abbrev pub WritingIsSupplied : Type 0
WritingIsSupplied =
    (w k : ℕ) (p s x r z : Plan) (ss : List Supply)
    → IsJoined (writing w k p) s → AreSupplied p.imports ss → IsJoined (supplying p ss) x → IsJoined (writing w k x) r → IsJoined (supplying s ss) z
    → (g : Renumber) × IsRenumbered g z r

-- So it realises the assignment where the plan realises the variable.
abbrev pub WritingIsRealised : Type 0
WritingIsRealised =
    (w k : ℕ) (p s : Plan) (m : Term)
    → IsRight p → p.outcome ≡ Var w → k < 2 ^ w → IsJoined (writing w k p) s → RealisesOpen p m → RealisesOpen s (Assign m (Lit k w))
