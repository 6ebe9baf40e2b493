-- A local variable in the place of an import.
--
-- Read first: Together. A term with an import of a variable is run by itself, and the surroundings answer for the
-- variable; or it is run as the body of a block, and the store has its number. What it shows at the import in the one
-- run it does with the store in the other: a request to read and the answer to a write are nothing there, a request
-- to write is a computation step, and so is the answer to a read, if it is the number that the store has.
use Rattle.std.specs.Prelude.{◌≡◌, ◌≢◌, ℕ, zero, suc, Bool, true, false, [], ◌∷◌, Some, None, if◌then◌else◌}
use Rattle.std.specs.Str.{bytes_eq}
use Rattle.gos_types.specs.Types.{Type', Var}
use Rattle.gos_model.specs.Terms.{Name, Term, Skip, Lit, Bound, Import, Lam, App, Both, Fst, Snd, Seq, Par, If, While, Assign, Deref, New, NewArray, Not, Bin, Loc, Arr, Scope, Wait, Held, Put}
use Rattle.gos_model.specs.Typing.{Imports, Typed, import_type}
use Rattle.gos_model.specs.Substitution.{instantiate}
use Rattle.gos_model.specs.Stores.{variable_at, Store, entry_at, store_put}
use Rattle.gos_model.specs.Labels.{Taken, taken}
use Rattle.gos_model.specs.Moves.{Program, Config, Running, Act, Computing, Showing, Unfoldings, Move}
use Rattle.gos_programs.specs.contexts.Renaming.{IsInjective, IsFreeOf, beside}

-- What stands for a wait: at the import, a read for that of its answer, and `skip` for that of the answer to a write. For
-- event 0, a request, it never waits.
abbrev pub wait_for : Bool → ℕ → Name → ℕ → Term
wait_for false z x n = Wait x n
wait_for true z x zero = Wait x zero
wait_for true z x (suc zero) = Deref (Loc z)
wait_for true z x n = Skip

-- the term with location z for import y, and its own locations renamed
abbrev pub placed : (ℕ → ℕ) → Name → ℕ → Term → Term
placed r y z Skip = Skip
placed r y z (Lit k w) = Lit k w
placed r y z (Bound n) = Bound n
placed r y z (Import x) = if bytes_eq x y then Loc z else Import x
placed r y z (Lam a m) = Lam a (placed r y z m)
placed r y z (App m n) = App (placed r y z m) (placed r y z n)
placed r y z (Both m n) = Both (placed r y z m) (placed r y z n)
placed r y z (Fst m) = Fst (placed r y z m)
placed r y z (Snd m) = Snd (placed r y z m)
placed r y z (Seq m n) = Seq (placed r y z m) (placed r y z n)
placed r y z (Par m n) = Par (placed r y z m) (placed r y z n)
placed r y z (If m n p) = If (placed r y z m) (placed r y z n) (placed r y z p)
placed r y z (While m n) = While (placed r y z m) (placed r y z n)
placed r y z (Assign m n) = Assign (placed r y z m) (placed r y z n)
placed r y z (Deref m) = Deref (placed r y z m)
placed r y z (New w m) = New w (placed r y z m)
placed r y z (NewArray n w m) = NewArray n w (placed r y z m)
placed r y z (Not m) = Not (placed r y z m)
placed r y z (Bin op m n) = Bin op (placed r y z m) (placed r y z n)
placed r y z (Loc l) = Loc (r l)
placed r y z (Arr l) = Arr (r l)
placed r y z (Scope l m) = Scope (r l) (placed r y z m)
placed r y z (Wait x n) = wait_for (bytes_eq x y) z x n
placed r y z (Held k op n) = Held k op (placed r y z n)
placed r y z (Put m k) = Put (placed r y z m) k

-- the second imports have each name but y as the first ones have it
abbrev pub HasOthers : Name → Imports → Imports → Type 0
HasOthers y i j = (x : Name) → bytes_eq x y ≡ false → import_type j x ≡ import_type i x

-- z is a location of f with this width and number, and no name that the renaming gives
pub record IsHome (r : ℕ → ℕ) (f : Store) (z w k : ℕ) : Type 0 where
  pub injective : IsInjective r
  pub free : IsFreeOf r f
  pub apart : (l : ℕ) → z ≢ r l
  pub entry : entry_at f z ≡ Some (variable_at z w k)

-- it shows nothing at the import
abbrev pub IsElsewhere : Name → Act → Type 0
IsElsewhere y Computing = Unit {0}
IsElsewhere y (Showing o) = o.port ≢ Taken y

-- the body of a block, with a new import for the variable, is that body with the location
abbrev pub BodiesArePlaced : Type 0
BodiesArePlaced =
    (r : ℕ → ℕ) (y : Name) (z : ℕ) (i : Imports) (a : Type') (m : Term) (t : Type')
    → Typed i (a ∷ []) m t → import_type i y ≡ None → placed r y z (instantiate m (Import y)) ≡ instantiate m (Loc z)

-- a move that shows nothing at the import is the same move
abbrev pub OtherMoves : Type 0
OtherMoves =
    (p q : Program) (y : Name) (r : ℕ → ℕ) (z w k : ℕ) (f s u : Store) (m t : Term) (a : Act)
    → import_type p.imports y ≡ Some (Var w) → HasOthers y p.imports q.imports → IsHome r f z w k → IsElsewhere y a
    → Move p a (Running m s) (Running t u) → Move q a (Running (placed r y z m) (beside r s f)) (Running (placed r y z t) (beside r u f))

-- a request to read is nothing but unfoldings, and so is the answer to a write
abbrev pub ReadAsked : Type 0
ReadAsked =
    (p : Program) (y : Name) (r : ℕ → ℕ) (z w : ℕ) (s u : Store) (m t : Term)
    → import_type p.imports y ≡ Some (Var w) → Move p (Showing (taken y 0 0)) (Running m s) (Running t u)
    → (n : ℕ) × Unfoldings n (placed r y z m) (placed r y z t) × (u ≡ s)

abbrev pub WriteAnswered : Type 0
WriteAnswered =
    (p : Program) (y : Name) (r : ℕ → ℕ) (z w : ℕ) (s u : Store) (m t : Term)
    → import_type p.imports y ≡ Some (Var w) → Move p (Showing (taken y 3 0)) (Running m s) (Running t u)
    → (n : ℕ) × Unfoldings n (placed r y z m) (placed r y z t) × (u ≡ s)

-- unfoldings that are left stand before the next move
abbrev pub UnfoldingsBefore : Type 0
UnfoldingsBefore =
    (q : Program) (a : Act) (n : ℕ) (m v : Term) (s : Store) (d : Config)
    → Unfoldings n m v → Move q a (Running v s) d → Move q a (Running m s) d

-- the answer to a read is a computation step, where it is the number that the store has
abbrev pub ReadAnswered : Type 0
ReadAnswered =
    (p q : Program) (y : Name) (r : ℕ → ℕ) (z w k : ℕ) (f s u : Store) (m t : Term)
    → import_type p.imports y ≡ Some (Var w) → IsHome r f z w k → Move p (Showing (taken y 1 k)) (Running m s) (Running t u)
    → Move q Computing (Running (placed r y z m) (beside r s f)) (Running (placed r y z t) (beside r u f))

-- a request to write is a computation step, that puts the number
abbrev pub WriteAsked : Type 0
WriteAsked =
    (p q : Program) (y : Name) (r : ℕ → ℕ) (z w k j : ℕ) (f s u : Store) (m t : Term)
    → import_type p.imports y ≡ Some (Var w) → IsHome r f z w k → Move p (Showing (taken y 2 j)) (Running m s) (Running t u)
    → Move q Computing (Running (placed r y z m) (beside r s f)) (Running (placed r y z t) (beside r u (store_put f z 0 j)))
