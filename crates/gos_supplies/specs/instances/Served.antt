-- A bound import: a plan with the plan that serves one of its imports.
--
-- Read first: Modules of gos_realises; Linking of gos_model. The handshakes of the import are joined to those of the other
-- plan's result. The imports of both stay but for the one that is served.
use Rattle.std.specs.Prelude.{◌≡◌, ℕ, List, [], ◌∷◌, ◌++◌, length, Option, Some, None, slice_get, if◌then◌else◌}
use Rattle.std.specs.Str.{bytes_eq}
use Rattle.gos_types.specs.Types.{Type'}
use Rattle.gos_model.specs.Terms.{Name, Term}
use Rattle.gos_model.specs.Typing.{Imported, Typed}
use Rattle.gos_model.specs.Linking.{supplied}
use Rattle.gos_plan.specs.Plans.{Plan, IsRight}
use Rattle.gos_plan.specs.Joining.{Wiring}
use Rattle.gos_realises.specs.realises.Regular.{count, IsRegular}
use Rattle.gos_realises.specs.realises.Links.{LinksFit, IsJoined}
use Rattle.gos_realises.specs.realises.Realises.{NamesDiffer}
use Rattle.gos_realises.specs.realises.Slim.{IsSlim}
use Rattle.gos_realises.specs.realises.Modules.{Supply, AreSupplied, import_linked, supplying, RealisesOpen, RealisesModule}
use Rattle.gos_joining.specs.webs.Renumbering.{Renumber, IsRenumbered}

-- q serves import k of p, which is of this type
abbrev pub serving : ℕ → Type' → Plan → Plan → Wiring
serving k t p q = record { plans = p ∷ q ∷ []; links = import_linked k 1 0 (count t); giver = 0; skipped = 0; outcome = p.outcome }

-- The links fit, and so there is a joining, where the import is there and the giver is of its type.
abbrev pub ServingFits : Type 0
ServingFits =
    (k : ℕ) (x : Imported) (p q : Plan)
    → IsRight p → IsRight q → slice_get p.imports k ≡ Some x → q.outcome ≡ x.ty → LinksFit (serving k x.ty p q)

-- the giver's term for this name, and none for others
abbrev pub bound_to : Name → Term → Name → Option Term
bound_to x n y = if bytes_eq x y then Some n else None

-- The plan s of both, with supplies, is one but for numbers with p that has q, with q's part of the supplies, as a supply: both
-- are the joining of the two plans and all supplies.
abbrev pub ServedIsSupplied : Type 0
ServedIsSupplied =
    (is js : List Imported) (x : Imported) (p q s y r z : Plan) (n : Term) (fs bs ts : List Supply)
    → p.imports ≡ is ++ (x ∷ js) → IsJoined (serving (length is) x.ty p q) s → AreSupplied is fs → AreSupplied js bs → AreSupplied q.imports ts
    → IsJoined (supplying q ts) y → IsJoined (supplying p (fs ++ (record { plan = y; term = n } ∷ bs))) r
    → IsJoined (supplying s ((fs ++ bs) ++ ts)) z → (g : Renumber) × IsRenumbered g z r

-- So it realises the term of p with that of q in it, with any supplies, where p and q realise theirs. The names of p's imports
-- differ, as do those of all that stay, and each term has its type under the imports of its own plan.
abbrev pub ServedIsOpen : Type 0
ServedIsOpen =
    (is js : List Imported) (x : Imported) (p q s : Plan) (m n : Term)
    → IsRight p → IsRight q → p.imports ≡ is ++ (x ∷ js) → q.outcome ≡ x.ty → NamesDiffer p.imports → NamesDiffer s.imports
    → Typed p.imports [] m p.outcome → Typed q.imports [] n q.outcome → IsJoined (serving (length is) x.ty p q) s
    → RealisesOpen p m → RealisesOpen q n → RealisesOpen s (supplied (bound_to x.name n) m)

-- A module whose import is served is a module. That the plan of both is regular and slim is asked: joining alone doesn't give it.
abbrev pub ServedIsModule : Type 0
ServedIsModule =
    (is js : List Imported) (x : Imported) (p q s : Plan) (m n : Term)
    → p.imports ≡ is ++ (x ∷ js) → q.outcome ≡ x.ty → NamesDiffer s.imports → IsJoined (serving (length is) x.ty p q) s
    → RealisesModule p m → RealisesModule q n → IsRegular s → IsSlim s → RealisesModule s (supplied (bound_to x.name n) m)

-- Its term has the type of p's term under the imports that stay.
abbrev pub ServedIsTyped : Type 0
ServedIsTyped =
    (is js qs : List Imported) (x : Imported) (m n : Term) (t : Type')
    → NamesDiffer (is ++ (x ∷ js)) → NamesDiffer ((is ++ js) ++ qs) → Typed (is ++ (x ∷ js)) [] m t → Typed qs [] n x.ty
    → Typed ((is ++ js) ++ qs) [] (supplied (bound_to x.name n) m) t
