-- The plan of an access of an array is regular where that of its index is, and realises the access where that realises the index.
--
-- Read first: Made; Realises of gos_realises. The array asks for the index between the request of the access and its answer, as often as
-- it likes, or never; each time the plan of the index runs.
use Rattle.std.specs.Prelude.{ℕ, [], All}
use Rattle.gos_types.specs.Types.{Exp}
use Rattle.gos_model.specs.Terms.{Name, Term, Import, App}
use Rattle.gos_model.specs.Typing.{Typed}
use Rattle.gos_plan.specs.Plans.{Plan}
use Rattle.gos_plan.specs.TokenBits.{LiteralFits}
use Rattle.gos_realises.specs.realises.Regular.{IsRegular}
use Rattle.gos_realises.specs.realises.Matched.{RealisesInTurn}
use Rattle.gos_realises.specs.realises.Realises.{AllPorts, NamesDiffer}
use Rattle.gos_joining.specs.webs.Cutting.{Cut}
use Rattle.gos_supplies.specs.arrays.Accesses.{Access, accessing}
use Rattle.gos_supplies.specs.arrays.Made.{IsAccess, access_plan}

abbrev pub AccessIsRegular : Type 0
AccessIsRegular =
    (a : Access) (i w : ℕ) (x : Name) (f g : Cut) (r q : Plan)
    → IsAccess i w x f g r (access_plan a x w) q → All LiteralFits r.parts → IsRegular q → IsRegular r

abbrev pub AccessIsRealised : Type 0
AccessIsRealised =
    (a : Access) (i w : ℕ) (x : Name) (n : Term) (f g : Cut) (r q : Plan)
    → IsAccess i w x f g r (access_plan a x w) q → AllPorts r.imports → NamesDiffer r.imports → All LiteralFits r.parts
    → IsRegular q → Typed q.imports [] n (Exp i) → RealisesInTurn q n → RealisesInTurn r (accessing a w (App (Import x) n))
