-- A local array in the place of an import.
--
-- Read first: Stages; LocalVariable of contexts. A term with an import of an array is run by itself, and the surroundings answer for
-- the array; or it is run as the body of a block, and the store has its numbers. An access that waits at the import is in the block the
-- access itself, at the index as it is now. So that it begins, is asked for its index and tells it is nothing there, and its end is a
-- computation step.
use Rattle.std.specs.Prelude.{◌≡◌, ◌≢◌, ℕ, Bool, true, false, List, [], ◌∷◌, Option, Some, None, if◌then◌else◌, slice_get}
use Rattle.std.specs.Str.{bytes_eq}
use Rattle.gos_types.specs.Types.{Type'}
use Rattle.gos_model.specs.Terms.{Name, Term, Skip, Lit, Bound, Import, Lam, App, Both, Fst, Snd, Seq, Par, If, While, Assign, Deref, New, NewArray, Not, Bin, Loc, Arr, Scope, Wait, Held, Put}
use Rattle.gos_model.specs.Typing.{Imports, Typed, import_type}
use Rattle.gos_model.specs.Substitution.{instantiate}
use Rattle.gos_model.specs.Stores.{Entry, Store, entry_at, store_put}
use Rattle.gos_model.specs.Accesses.{IsArrayImport}
use Rattle.gos_model.specs.Labels.{Label, taken}
use Rattle.gos_model.specs.Moves.{Program, Running, Act, Computing, Showing, Unfoldings, Move}
use Rattle.gos_programs.specs.contexts.Renaming.{IsInjective, IsFreeOf, beside}
use Rattle.gos_programs.specs.contexts.LocalVariable.{HasOthers, IsElsewhere}
use Rattle.gos_programs.specs.arrays.Stages.{Stage, Clear, Begun, Asked, Told, StandsAt}

-- whether the term is a wait at this port
abbrev pub waits_at : Name → Term → Bool
waits_at y (Wait x s) = bytes_eq x y
waits_at y m = false

-- the argument of a function part: of one that waits at the port it is a pair, of which the second side is the index as it is now
abbrev pub index_now : Bool → Term → Term
index_now true (Both n m) = m
index_now b m = m

-- the term with location z, of an array, for import y, and its own locations renamed
abbrev pub arrayed : (ℕ → ℕ) → Name → ℕ → Term → Term
arrayed r y z Skip = Skip
arrayed r y z (Lit k w) = Lit k w
arrayed r y z (Bound n) = Bound n
arrayed r y z (Import x) = if bytes_eq x y then Arr z else Import x
arrayed r y z (Lam a m) = Lam a (arrayed r y z m)
arrayed r y z (App m n) = App (arrayed r y z m) (index_now (waits_at y m) (arrayed r y z n))
arrayed r y z (Both m n) = Both (arrayed r y z m) (arrayed r y z n)
arrayed r y z (Fst m) = Fst (arrayed r y z m)
arrayed r y z (Snd m) = Snd (arrayed r y z m)
arrayed r y z (Seq m n) = Seq (arrayed r y z m) (arrayed r y z n)
arrayed r y z (Par m n) = Par (arrayed r y z m) (arrayed r y z n)
arrayed r y z (If m n p) = If (arrayed r y z m) (arrayed r y z n) (arrayed r y z p)
arrayed r y z (While m n) = While (arrayed r y z m) (arrayed r y z n)
arrayed r y z (Assign m n) = Assign (arrayed r y z m) (arrayed r y z n)
arrayed r y z (Deref m) = Deref (arrayed r y z m)
arrayed r y z (New w m) = New w (arrayed r y z m)
arrayed r y z (NewArray n w m) = NewArray n w (arrayed r y z m)
arrayed r y z (Not m) = Not (arrayed r y z m)
arrayed r y z (Bin op m n) = Bin op (arrayed r y z m) (arrayed r y z n)
arrayed r y z (Loc l) = Loc (r l)
arrayed r y z (Arr l) = Arr (r l)
arrayed r y z (Scope l m) = Scope (r l) (arrayed r y z m)
arrayed r y z (Wait x s) = if bytes_eq x y then Arr z else Wait x s
arrayed r y z (Held k op n) = Held k op (arrayed r y z n)
arrayed r y z (Put m k) = Put (arrayed r y z m) k

-- what the store has of the array: at location z, numbers of w bits
abbrev pub numbers_at : ℕ → ℕ → List ℕ → Entry
numbers_at z w ks = record { place = z; width = w; numbers = ks }

-- z is a location of f with these numbers, and no name that the renaming gives
pub record IsArrayHome (r : ℕ → ℕ) (f : Store) (z w : ℕ) (ks : List ℕ) : Type 0 where
  pub injective : IsInjective r
  pub free : IsFreeOf r f
  pub apart : (l : ℕ) → z ≢ r l
  pub entry : entry_at f z ≡ Some (numbers_at z w ks)

-- the body of a block, with a new import for the array, is that body with the location
abbrev pub BodiesAreArrayed : Type 0
BodiesAreArrayed =
    (r : ℕ → ℕ) (y : Name) (z : ℕ) (i : Imports) (a : Type') (m : Term) (t : Type')
    → Typed i (a ∷ []) m t → import_type i y ≡ None → arrayed r y z (instantiate m (Import y)) ≡ instantiate m (Arr z)

-- Nothing waits in a source.
abbrev pub SourcesStandClear : Type 0
SourcesStandClear = (y : Name) (i : Imports) (g : List Type') (m : Term) (t : Type') → Typed i g m t → StandsAt y Clear m

-- a move that shows nothing at the import is the same move, and what waits there stays at its stage
abbrev pub OtherMovesStand : Type 0
OtherMovesStand =
    (p q : Program) (y : Name) (r : ℕ → ℕ) (z w : ℕ) (ks : List ℕ) (f s u : Store) (m t : Term) (a : Act) (st : Stage)
    → HasOthers y p.imports q.imports → IsArrayHome r f z w ks → IsElsewhere y a → StandsAt y st m
    → Move p a (Running m s) (Running t u)
    → Move q a (Running (arrayed r y z m) (beside r s f)) (Running (arrayed r y z t) (beside r u f)) × StandsAt y st t

-- the label by which an access begins, and that by which it ends
abbrev pub begin_label : Name → Option ℕ → Label
begin_label y None = taken y 2 0
begin_label y (Some k) = taken y 4 k

-- Three labels lead to the next stage, and are nothing but unfoldings in the place of the import.
pub data Leads (y : Name) : Label → Stage → Stage → Type 0 where
  begins : (o : Option ℕ) → Leads y (begin_label y o) Clear (Begun o)
  asks : (o : Option ℕ) (v : ℕ) → Leads y (taken y 1 v) (Begun o) (Asked o)
  tells : (o : Option ℕ) (k : ℕ) → Leads y (taken y 0 k) (Asked o) (Told o k)

abbrev pub StagesLead : Type 0
StagesLead =
    (p : Program) (y : Name) (r : ℕ → ℕ) (z i w : ℕ) (s u : Store) (m t : Term) (l : Label) (st to : Stage)
    → IsArrayImport p.imports y i w → Leads y l st to → StandsAt y st m → Move p (Showing l) (Running m s) (Running t u)
    → (n : ℕ) × Unfoldings n (arrayed r y z m) (arrayed r y z t) × (u ≡ s) × StandsAt y to t

-- A read ends with a computation step, where the answer is the number at the index, and so does a write.
abbrev pub ReadEndsAt : Type 0
ReadEndsAt =
    (p q : Program) (y : Name) (r : ℕ → ℕ) (z i w : ℕ) (ks : List ℕ) (f s u : Store) (m t : Term) (k v : ℕ)
    → IsArrayImport p.imports y i w → IsArrayHome r f z w ks → slice_get ks k ≡ Some v → StandsAt y (Told None k) m
    → Move p (Showing (taken y 3 v)) (Running m s) (Running t u)
    → Move q Computing (Running (arrayed r y z m) (beside r s f)) (Running (arrayed r y z t) (beside r u f)) × StandsAt y Clear t

abbrev pub WriteEndsAt : Type 0
WriteEndsAt =
    (p q : Program) (y : Name) (r : ℕ → ℕ) (z i w : ℕ) (ks : List ℕ) (f s u : Store) (m t : Term) (k v j : ℕ)
    → IsArrayImport p.imports y i w → IsArrayHome r f z w ks → slice_get ks k ≡ Some j → StandsAt y (Told (Some v) k) m
    → Move p (Showing (taken y 5 0)) (Running m s) (Running t u)
    → Move q Computing (Running (arrayed r y z m) (beside r s f)) (Running (arrayed r y z t) (beside r u (store_put f z k v)))
    × StandsAt y Clear t
