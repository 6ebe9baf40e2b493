-- Instances of modules, one served after another: the joining of all their plans along all bound imports.
--
-- Read first: Served; Flat of gos_joining. Imports are known by their numbers here, since two instances may have imports of one
-- name until these are served. So what a plan realises is told for the terms that are supplied, in their order.
use Rattle.std.specs.Prelude.{◌≡◌, ℕ, zero, suc, List, [], ◌∷◌, ◌++◌, length, Option, Some, None, if◌then◌else◌}
use Rattle.std.specs.Str.{bytes_eq}
use Rattle.gos_types.specs.Types.{Type'}
use Rattle.gos_model.specs.Terms.{Name, Term, Import}
use Rattle.gos_model.specs.Typing.{Imported, Typed}
use Rattle.gos_model.specs.Linking.{supplied}
use Rattle.gos_plan.specs.Plans.{Plan, IsRight}
use Rattle.gos_plan.specs.Joining.{Wiring, IsJoining}
use Rattle.gos_realises.specs.realises.Regular.{count}
use Rattle.gos_realises.specs.realises.Links.{IsJoined}
use Rattle.gos_realises.specs.realises.Wirings.{side}
use Rattle.gos_realises.specs.realises.Realises.{NamesDiffer, Realises}
use Rattle.gos_realises.specs.realises.Modules.{Supply, AreSupplied, import_linked, supplying, RealisesOpen}
use Rattle.gos_joining.specs.webs.Renumbering.{Renumber}
use Rattle.gos_joining.specs.unions.Flat.{flat}
use Rattle.gos_joining.specs.renumbered.Rewired.{IsRewired}
use Rattle.gos_supplies.specs.instances.Served.{serving}

abbrev pub terms_of : List Supply → List Term
terms_of [] = []
terms_of (s ∷ ss) = s.term ∷ terms_of ss

-- a plan realises with any supplies what f makes of their terms
abbrev pub RealisesBy : Plan → (List Term → Term) → Type 0
RealisesBy p f =
    (ss : List Supply) (r : Plan)
    → AreSupplied p.imports ss → IsJoined (supplying p ss) r → NamesDiffer r.imports → Realises p.outcome r (f (terms_of ss))

-- the first terms, and those behind
abbrev pub first : ℕ → List Term → List Term
first zero ts = []
first (suc n) [] = []
first (suc n) (t ∷ ts) = t ∷ first n ts

abbrev pub after : ℕ → List Term → List Term
after zero ts = ts
after (suc n) [] = []
after (suc n) (t ∷ ts) = after n ts

-- what f makes of k terms, then what g makes of the terms behind, and then j terms
abbrev pub served_by : ℕ → ℕ → (List Term → Term) → (List Term → Term) → List Term → Term
served_by k j f g ts = f (first k ts ++ (g (after j (after k ts)) ∷ first j (after k ts)))

-- The plan of a plan and its giver realises what the plan makes of the giver's term among the supplies.
abbrev pub ServedIsBy : Type 0
ServedIsBy =
    (is js : List Imported) (x : Imported) (p q s : Plan) (f g : List Term → Term)
    → p.imports ≡ is ++ (x ∷ js) → q.outcome ≡ x.ty → IsJoined (serving (length is) x.ty p q) s → RealisesBy p f → RealisesBy q g
    → RealisesBy s (served_by (length is) (length js) f g)

-- the term for a name
abbrev pub term_among : List Imported → List Term → Name → Option Term
term_among [] ts x = None
term_among (i ∷ is) [] x = None
term_among (i ∷ is) (t ∷ ts) x = if bytes_eq i.name x then Some t else term_among is ts x

-- An instance alone, or the instances of two trees, of which the second serves an import of the first: the one between these.
pub data Tree : Type 0 where
  Alone : (plan : Plan) (term : Term) → Tree
  Serve : (before behind : List Imported) (import : Imported) (user giver : Tree) → Tree

-- the imports that stay, the type, and what is made of supplies
abbrev pub left_of : Tree → List Imported
left_of (Alone p m) = p.imports
left_of (Serve is js x t u) = (is ++ js) ++ left_of u

abbrev pub type_of : Tree → Type'
type_of (Alone p m) = p.outcome
type_of (Serve is js x t u) = type_of t

abbrev pub meaning : Tree → List Term → Term
meaning (Alone p m) ts = supplied (term_among p.imports ts) m
meaning (Serve is js x t u) ts = served_by (length is) (length js) (meaning t) (meaning u) ts

-- the plans of all instances, joined along all imports that are served
abbrev pub bound : ℕ → Imported → Type' → Wiring
bound k x t = record { plans = []; links = import_linked k 1 0 (count x.ty); giver = 0; skipped = 0; outcome = t }

abbrev pub wired : Tree → Wiring
wired (Alone p m) = side 0 p.outcome p
wired (Serve is js x t u) = flat (bound (length is) x (type_of t)) (wired t ∷ wired u ∷ [])

-- each instance realises its term, and each import that is served is one that stays until then, of the giver's type
abbrev pub IsTree : Tree → Type 0
IsTree (Alone p m) = IsRight p × RealisesOpen p m
IsTree (Serve is js x t u) = IsTree t × IsTree u × (left_of t ≡ is ++ (x ∷ js)) × (type_of u ≡ x.ty)

-- The joining of all of them is there, and realises what the instances' terms make of the supplies.
abbrev pub TreeIsJoined : Type 0
TreeIsJoined = (t : Tree) → IsTree t → (r : Plan) × IsJoined (wired t) r

abbrev pub TreeIsRealised : Type 0
TreeIsRealised = (t : Tree) (r : Plan) → IsTree t → IsJoining (wired t) r → RealisesBy r (meaning t)

-- What is made of the imports' own names is the substituted program of the tree.
abbrev pub names_of : List Imported → List Term
names_of [] = []
names_of (i ∷ is) = Import i.name ∷ names_of is

abbrev pub body_of : Tree → Term
body_of t = meaning t (names_of (left_of t))

-- each instance's term has its plan's type
abbrev pub HasTypes : Tree → Type 0
HasTypes (Alone p m) = Typed p.imports [] m p.outcome
HasTypes (Serve is js x t u) = HasTypes t × HasTypes u

-- So the joining realises the substituted program, where the names of the imports that stay differ.
abbrev pub TreeIsOpen : Type 0
TreeIsOpen =
    (t : Tree) (r : Plan) → IsTree t → HasTypes t → NamesDiffer (left_of t) → IsJoining (wired t) r → RealisesOpen r (body_of t)

-- The same of any wiring that is the tree's but for numbers: so the order of the instances, and that in which they are joined, is
-- free.
abbrev pub RewiredTreeIsOpen : Type 0
RewiredTreeIsOpen =
    (t : Tree) (w : Wiring) (forth back : ℕ → ℕ) (f : ℕ → Renumber) (r : Plan)
    → IsTree t → HasTypes t → IsRewired forth back f w (wired t) → IsJoining w r → NamesDiffer r.imports → RealisesOpen r (body_of t)
