-- A side of a product, and a variable that is read: joined and then supplied, or supplied and then joined.
--
-- Read first: Applied.
use Rattle.std.specs.Prelude.{◌≡◌, ℕ, List}
use Rattle.gos_types.specs.Types.{Type', Var, Pair}
use Rattle.gos_model.specs.Terms.{Term, Fst, Snd, Deref}
use Rattle.gos_plan.specs.Plans.{Plan, IsRight}
use Rattle.gos_realises.specs.realises.Regular.{count}
use Rattle.gos_realises.specs.realises.Links.{IsJoined}
use Rattle.gos_realises.specs.realises.Wirings.{reading, side}
use Rattle.gos_realises.specs.realises.Modules.{Supply, AreSupplied, supplying, RealisesOpen}
use Rattle.gos_joining.specs.webs.Renumbering.{Renumber, IsRenumbered}

-- The plan s of a side, with supplies, is one but for numbers with that side of the supplied plan.
abbrev pub SideIsSupplied : Type 0
SideIsSupplied =
    (t : Type') (k : ℕ) (p s x r z : Plan) (ss : List Supply)
    → IsJoined (side k t p) s → AreSupplied p.imports ss → IsJoined (supplying p ss) x → IsJoined (side k t x) r → IsJoined (supplying s ss) z
    → (g : Renumber) × IsRenumbered g z r

-- So it realises the projection where the plan realises the product.
abbrev pub FirstIsRealised : Type 0
FirstIsRealised =
    (a b : Type') (p s : Plan) (m : Term)
    → IsRight p → p.outcome ≡ Pair a b → IsJoined (side 0 a p) s → RealisesOpen p m → RealisesOpen s (Fst m)

abbrev pub SecondIsRealised : Type 0
SecondIsRealised =
    (a b : Type') (p s : Plan) (m : Term)
    → IsRight p → p.outcome ≡ Pair a b → IsJoined (side (count a) b p) s → RealisesOpen p m → RealisesOpen s (Snd m)

-- The same of a plan that reads a variable.
abbrev pub ReadingIsSupplied : Type 0
ReadingIsSupplied =
    (w : ℕ) (p s x r z : Plan) (ss : List Supply)
    → IsJoined (reading w p) s → AreSupplied p.imports ss → IsJoined (supplying p ss) x → IsJoined (reading w x) r → IsJoined (supplying s ss) z
    → (g : Renumber) × IsRenumbered g z r

abbrev pub ReadingIsRealised : Type 0
ReadingIsRealised =
    (w : ℕ) (p s : Plan) (m : Term)
    → IsRight p → p.outcome ≡ Var w → IsJoined (reading w p) s → RealisesOpen p m → RealisesOpen s (Deref m)
