-- Open blocks of a running term, and the locations of its store.
--
-- Read first: Moves of gos_model. A block is opened at a reached place, and a running term has open blocks nowhere
-- else. So each location of the store is that of an open block, and at the end of a run the store is empty.
use Rattle.std.specs.Prelude.{◌≡◌, ◌⊎◌, ℕ, List, [], Some}
use Rattle.gos_types.specs.Types.{Type'}
use Rattle.gos_model.specs.Terms.{Term, Skip, Lit, Bound, Import, Lam, App, Both, Fst, Snd, Seq, Par, If, While, Assign, Deref, New, NewArray, Not, Bin, Loc, Arr, Scope, Wait, Held, Put}
use Rattle.gos_model.specs.Reach.{IsArrayHead, IsArrayPlace}
use Rattle.gos_model.specs.Typing.{Imports, Typed}
use Rattle.gos_model.specs.Stores.{Entry, Store, entry_at}
use Rattle.gos_model.specs.Steps.{IsValue}
use Rattle.gos_model.specs.Moves.{Program, Idle, Running, Act, Moves}

-- no block is open in it
abbrev pub IsShut : Term → Type 0
IsShut Skip = Unit {0}
IsShut (Lit k w) = Unit {0}
IsShut (Bound n) = Unit {0}
IsShut (Import x) = Unit {0}
IsShut (Lam a m) = IsShut m
IsShut (App m n) = IsShut m × IsShut n
IsShut (Both m n) = IsShut m × IsShut n
IsShut (Fst m) = IsShut m
IsShut (Snd m) = IsShut m
IsShut (Seq m n) = IsShut m × IsShut n
IsShut (Par m n) = IsShut m × IsShut n
IsShut (If m n p) = IsShut m × IsShut n × IsShut p
IsShut (While m n) = IsShut m × IsShut n
IsShut (Assign m n) = IsShut m × IsShut n
IsShut (Deref m) = IsShut m
IsShut (New w m) = IsShut m
IsShut (NewArray n w m) = IsShut m
IsShut (Not m) = IsShut m
IsShut (Bin op m n) = IsShut m × IsShut n
IsShut (Loc l) = Unit {0}
IsShut (Arr l) = Unit {0}
IsShut (Scope l m) = ⊥
IsShut (Wait x s) = Unit {0}
IsShut (Held k op n) = IsShut n
IsShut (Put m k) = IsShut m

abbrev mutual
  -- no block is open in it but at reached places
  pub OpensInPlace : Term → Type 0
  OpensInPlace (Seq m n) = OpensInPlace m × IsShut n
  OpensInPlace (Par m n) = OpensInPlace m × OpensInPlace n
  OpensInPlace (If m n p) = OpensInPlace m × IsShut n × IsShut p
  OpensInPlace (Bin op m n) = OpensInPlace m × IsShut n
  OpensInPlace (Held k op n) = OpensInPlace n
  OpensInPlace (Not m) = OpensInPlace m
  OpensInPlace (Assign m n) = IsShut m × OpensInPlace n
  OpensInPlace (Scope l m) = OpensInPlace m
  OpensInPlace (Deref m) = IsShut m ⊎ OpensInIndex m
  OpensInPlace (Put m k) = IsShut m ⊎ OpensInIndex m
  OpensInPlace m = IsShut m

  -- nor in an access but in its index
  pub OpensInIndex : Term → Type 0
  OpensInIndex (App h n) = OpensInPortIndex h n ⊎ (IsArrayPlace h × OpensInPlace n)
  OpensInIndex m = ⊥

  pub OpensInPortIndex : Term → Term → Type 0
  OpensInPortIndex h (Both n m) = IsArrayHead h × IsShut n × OpensInPlace m
  OpensInPortIndex h m = ⊥

abbrev mutual
  -- the location of a block that is open at a reached place
  pub IsOpen : ℕ → Term → Type 0
  IsOpen l (Seq m n) = IsOpen l m
  IsOpen l (Par m n) = IsOpen l m ⊎ IsOpen l n
  IsOpen l (If m n p) = IsOpen l m
  IsOpen l (Bin op m n) = IsOpen l m
  IsOpen l (Held k op n) = IsOpen l n
  IsOpen l (Not m) = IsOpen l m
  IsOpen l (Assign m n) = IsOpen l n
  IsOpen l (Scope k m) = (k ≡ l) ⊎ IsOpen l m
  IsOpen l (Deref m) = IsOpenInIndex l m
  IsOpen l (Put m k) = IsOpenInIndex l m
  IsOpen l m = ⊥

  pub IsOpenInIndex : ℕ → Term → Type 0
  IsOpenInIndex l (App h n) = IsOpenInPortIndex l h n ⊎ (IsArrayPlace h × IsOpen l n)
  IsOpenInIndex l m = ⊥

  pub IsOpenInPortIndex : ℕ → Term → Term → Type 0
  IsOpenInPortIndex l h (Both n m) = IsArrayHead h × IsOpen l m
  IsOpenInPortIndex l h m = ⊥

-- each location of the store is that of an open block
abbrev pub KeepsScopes : Term → Store → Type 0
KeepsScopes m s = OpensInPlace m × ((l : ℕ) (e : Entry) → entry_at s l ≡ Some e → IsOpen l m)

-- In a source no block is open, and so a run from Idle keeps that.
abbrev pub SourcesAreShut : Type 0
SourcesAreShut = (i : Imports) (g : List Type') (m : Term) (t : Type') → Typed i g m t → IsShut m

abbrev pub RunsKeepScopes : Type 0
RunsKeepScopes =
    (p : Program) (acts : List Act) (t : Term) (s : Store) → IsShut p.body → Moves p acts Idle (Running t s) → KeepsScopes t s

-- The moves of a running term keep it.
abbrev pub MovesKeepScopes : Type 0
MovesKeepScopes =
    (p : Program) (acts : List Act) (m t : Term) (s u : Store)
    → IsShut p.body → KeepsScopes m s → Moves p acts (Running m s) (Running t u) → KeepsScopes t u

-- At a value the store is empty.
abbrev pub EndsEmpty : Type 0
EndsEmpty =
    (p : Program) (acts : List Act) (v : Term) (s : Store)
    → IsShut p.body → Moves p acts Idle (Running v s) → IsValue v → s ≡ []
