-- Locations of a running term: each has its entry in the store.
--
-- Read first: Scopes. A block's location stands nowhere but in it, and no two open blocks have one location. So it
-- is in the store as long as it is in the term.
use Rattle.std.specs.Prelude.{◌≡◌, ◌⊎◌, ℕ, List, [], ◌∷◌, Some}
use Rattle.gos_types.specs.Types.{Type'}
use Rattle.gos_model.specs.Terms.{Term, Skip, Lit, Bound, Import, Lam, App, Both, Fst, Snd, Seq, Par, If, While, Assign, Deref, New, NewArray, Not, Bin, Loc, Arr, Scope, Wait, Held, Put}
use Rattle.gos_model.specs.Reach.{IsArrayHead, IsArrayPlace}
use Rattle.gos_model.specs.Typing.{Typed}
use Rattle.gos_model.specs.Stores.{Entry, Store, entry_at}
use Rattle.gos_model.specs.Moves.{Program, Idle, Running, Act, Moves}
use Rattle.gos_programs.specs.contexts.Scopes.{IsOpen}

-- something is at the location
abbrev pub Present : Store → ℕ → Type 0
Present s l = (e : Entry) × (entry_at s l ≡ Some e)

-- each location of a term has an entry
abbrev pub StandsIn : Store → Term → Type 0
StandsIn s Skip = Unit {0}
StandsIn s (Lit k w) = Unit {0}
StandsIn s (Bound n) = Unit {0}
StandsIn s (Import x) = Unit {0}
StandsIn s (Lam a m) = StandsIn s m
StandsIn s (App m n) = StandsIn s m × StandsIn s n
StandsIn s (Both m n) = StandsIn s m × StandsIn s n
StandsIn s (Fst m) = StandsIn s m
StandsIn s (Snd m) = StandsIn s m
StandsIn s (Seq m n) = StandsIn s m × StandsIn s n
StandsIn s (Par m n) = StandsIn s m × StandsIn s n
StandsIn s (If m n p) = StandsIn s m × StandsIn s n × StandsIn s p
StandsIn s (While m n) = StandsIn s m × StandsIn s n
StandsIn s (Assign m n) = StandsIn s m × StandsIn s n
StandsIn s (Deref m) = StandsIn s m
StandsIn s (New w m) = StandsIn s m
StandsIn s (NewArray n w m) = StandsIn s m
StandsIn s (Not m) = StandsIn s m
StandsIn s (Bin op m n) = StandsIn s m × StandsIn s n
StandsIn s (Loc l) = Present s l
StandsIn s (Arr l) = Present s l
StandsIn s (Scope l m) = Present s l × StandsIn s m
StandsIn s (Wait x n) = Unit {0}
StandsIn s (Held k op n) = StandsIn s n
StandsIn s (Put m k) = StandsIn s m

-- a location is one of these
abbrev pub Has : ℕ → List ℕ → Type 0
Has l [] = ⊥
Has l (k ∷ ls) = (k ≡ l) ⊎ Has l ls

-- each location of a term is one of these, or that of a block around it
abbrev pub InScope : List ℕ → Term → Type 0
InScope ls Skip = Unit {0}
InScope ls (Lit k w) = Unit {0}
InScope ls (Bound n) = Unit {0}
InScope ls (Import x) = Unit {0}
InScope ls (Lam a m) = InScope ls m
InScope ls (App m n) = InScope ls m × InScope ls n
InScope ls (Both m n) = InScope ls m × InScope ls n
InScope ls (Fst m) = InScope ls m
InScope ls (Snd m) = InScope ls m
InScope ls (Seq m n) = InScope ls m × InScope ls n
InScope ls (Par m n) = InScope ls m × InScope ls n
InScope ls (If m n p) = InScope ls m × InScope ls n × InScope ls p
InScope ls (While m n) = InScope ls m × InScope ls n
InScope ls (Assign m n) = InScope ls m × InScope ls n
InScope ls (Deref m) = InScope ls m
InScope ls (New w m) = InScope ls m
InScope ls (NewArray n w m) = InScope ls m
InScope ls (Not m) = InScope ls m
InScope ls (Bin op m n) = InScope ls m × InScope ls n
InScope ls (Loc l) = Has l ls
InScope ls (Arr l) = Has l ls
InScope ls (Scope l m) = InScope (l ∷ ls) m
InScope ls (Wait x s) = Unit {0}
InScope ls (Held k op n) = InScope ls n
InScope ls (Put m k) = InScope ls m

abbrev mutual
  -- no two open blocks have one location
  pub OpensDiffer : Term → Type 0
  OpensDiffer (Seq m n) = OpensDiffer m
  OpensDiffer (Par m n) = OpensDiffer m × OpensDiffer n × ((l : ℕ) → IsOpen l m → IsOpen l n → ⊥)
  OpensDiffer (If m n p) = OpensDiffer m
  OpensDiffer (Bin op m n) = OpensDiffer m
  OpensDiffer (Held k op n) = OpensDiffer n
  OpensDiffer (Not m) = OpensDiffer m
  OpensDiffer (Assign m n) = OpensDiffer n
  OpensDiffer (Scope l m) = (IsOpen l m → ⊥) × OpensDiffer m
  OpensDiffer (Deref m) = DifferInIndex m
  OpensDiffer (Put m k) = DifferInIndex m
  OpensDiffer m = Unit {0}

  pub DifferInIndex : Term → Type 0
  DifferInIndex (App h n) = DifferInPortIndex h n × (IsArrayPlace h → OpensDiffer n)
  DifferInIndex m = Unit {0}

  pub DifferInPortIndex : Term → Term → Type 0
  DifferInPortIndex h (Both n m) = IsArrayHead h → OpensDiffer m
  DifferInPortIndex h m = Unit {0}

-- in a run of a source
abbrev pub RunsStay : Type 0
RunsStay =
    (p : Program) (acts : List Act) (t : Term) (s : Store) (ty : Type')
    → Typed p.imports [] p.body ty → Moves p acts Idle (Running t s) → InScope [] t × OpensDiffer t × StandsIn s t
