-- Typing of terms.
--
-- Read first: Terms. `Typed` has a row for each form, and no order of search. It is Reynolds' syntactic control of
-- interference in its affine form: the two parts of an application share no name, and neither do those of `||`.
use Rattle.std.specs.Prelude.{◌≡◌, ℕ, suc, ◌-◌, ◌^◌, ◌<◌, List, [], ◌∷◌, ◌++◌, Contains, Option, Some, None, ◌⊎◌, nat_lt, if◌then◌else◌, slice_get}
use Rattle.std.specs.Str.{bytes_eq}
use Rattle.gos_types.specs.Types.{Type', Com, Exp, Var, Pair, Fun, IsDone}
pub use Rattle.gos_types.specs.Types.{index_width, array_type}
use Rattle.gos_types.specs.Widths.{IsWidth}
use Rattle.gos_model.specs.Terms.{Name, Term, Skip, Lit, Bound, Import, Lam, App, Both, Fst, Snd, Seq, Par, If, While, Assign, Deref, New, NewArray, Not, Bin, Loc, Arr, Scope, Wait, Held, Put, result_width}

-- an import: its name and its type
pub record Imported : Type 0 where
  pub name : Name
  pub ty : Type'

-- the imports of a module, in written order
abbrev pub Imports : Type 0
Imports = List Imported

-- the type of the first import with this name
abbrev pub import_type : Imports → Name → Option Type'
import_type [] x = None
import_type (i ∷ is) x = if bytes_eq i.name x then Some i.ty else import_type is x

-- what two parts may share, or may not: a variable by its number, a port by its name, a location
pub data Thing : Type 0 where
  Variable : (n : ℕ) → Thing
  Named : (x : Name) → Thing
  Place : (l : ℕ) → Thing

-- what is free in a term under d binders of its own
abbrev pub things : ℕ → Term → List Thing
things d Skip = []
things d (Lit k w) = []
things d (Bound i) = if nat_lt i d then [] else Variable (i - d) ∷ []
things d (Import x) = Named x ∷ []
things d (Lam a m) = things (suc d) m
things d (App m n) = things d m ++ things d n
things d (Both m n) = things d m ++ things d n
things d (Fst m) = things d m
things d (Snd m) = things d m
things d (Seq m n) = things d m ++ things d n
things d (Par m n) = things d m ++ things d n
things d (If m n p) = things d m ++ (things d n ++ things d p)
things d (While m n) = things d m ++ things d n
things d (Assign m n) = things d m ++ things d n
things d (Deref m) = things d m
things d (New w m) = things (suc d) m
things d (NewArray n w m) = things (suc d) m
things d (Not m) = things d m
things d (Bin op m n) = things d m ++ things d n
things d (Loc l) = Place l ∷ []
things d (Arr l) = Place l ∷ []
things d (Scope l m) = Place l ∷ things d m
things d (Wait x s) = Named x ∷ []
things d (Held k op n) = things d n
things d (Put m k) = things d m

-- nothing is free in both
abbrev pub Apart : Term → Term → Type 0
Apart m n = (t : Thing) → Contains (things 0 m) t → Contains (things 0 n) t → ⊥

-- how many numbers an array may have
abbrev pub IsLength : ℕ → Type 0
IsLength n = (n ≡ 2) ⊎ ((n ≡ 4) ⊎ ((n ≡ 8) ⊎ (n ≡ 16)))

-- A term with imports i, under binders of the types g with the innermost first, has type t. Running forms have none.
abbrev pub Typed : Imports → List Type' → Term → Type' → Type 0
Typed i g Skip t = t ≡ Com
Typed i g (Lit k w) t = (t ≡ Exp w) × IsWidth w × (k < 2 ^ w)
Typed i g (Bound n) t = slice_get g n ≡ Some t
Typed i g (Import x) t = import_type i x ≡ Some t
Typed i g (Lam a m) t = (b : Type') × (t ≡ Fun a b) × Typed i (a ∷ g) m b
Typed i g (App m n) t = (a : Type') × Typed i g m (Fun a t) × Typed i g n a × Apart m n
Typed i g (Both m n) t = (a : Type') × (b : Type') × (t ≡ Pair a b) × Typed i g m a × Typed i g n b
Typed i g (Fst m) t = (b : Type') × Typed i g m (Pair t b)
Typed i g (Snd m) t = (a : Type') × Typed i g m (Pair a t)
Typed i g (Seq m n) t = IsDone t × Typed i g m Com × Typed i g n t
Typed i g (Par m n) t = (t ≡ Com) × Typed i g m Com × Typed i g n Com × Apart m n
Typed i g (If m n p) t = IsDone t × Typed i g m (Exp 1) × Typed i g n t × Typed i g p t
Typed i g (While m n) t = (t ≡ Com) × Typed i g m (Exp 1) × Typed i g n Com
Typed i g (Assign m n) t = (w : ℕ) × (t ≡ Com) × Typed i g m (Var w) × Typed i g n (Exp w)
Typed i g (Deref m) t = (w : ℕ) × (t ≡ Exp w) × Typed i g m (Var w)
Typed i g (New w m) t = IsDone t × IsWidth w × Typed i (Var w ∷ g) m t
Typed i g (NewArray n w m) t = IsDone t × IsLength n × IsWidth w × Typed i (array_type n w ∷ g) m t
Typed i g (Not m) t = (w : ℕ) × (t ≡ Exp w) × Typed i g m (Exp w)
Typed i g (Bin op m n) t = (w : ℕ) × (t ≡ Exp (result_width op w)) × Typed i g m (Exp w) × Typed i g n (Exp w)
Typed i g (Loc l) t = ⊥
Typed i g (Arr l) t = ⊥
Typed i g (Scope l m) t = ⊥
Typed i g (Wait x s) t = ⊥
Typed i g (Held k op n) t = ⊥
Typed i g (Put m k) t = ⊥
