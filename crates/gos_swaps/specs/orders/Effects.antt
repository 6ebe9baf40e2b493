-- What a doing does to the store, and what it needs of it.
--
-- Read first: Alike. A doing changes the store at one location at most: one that stands in its term, or one that is
-- new. So it does the same on every store that has the same at the locations of its term, under any names.
use Rattle.std.specs.Prelude.{◌≡◌, ℕ, List, ◌∷◌, Contains, Option, Some, None}
use Rattle.gos_model.specs.Terms.{Term}
use Rattle.gos_model.specs.Typing.{Imports, Place, things}
use Rattle.gos_model.specs.Stores.{Entry, array_at, Store, entry_at, store_put, without}
use Rattle.gos_programs.specs.contexts.Renaming.{renamed}
use Rattle.gos_swaps.specs.doings.Doings.{Doing, DoesAt}

-- how many numbers a new location has, and of which width: a variable has one
pub record Shape : Type 0 where
  pub count : ℕ
  pub width : ℕ

abbrev pub shape : ℕ → ℕ → Shape
shape n w = record { count = n; width = w }

-- The store stays; a location gets a number at an index; a new variable or array takes a location, with zeros; a block drops its
-- location.
pub data Effect : Type 0 where
  Stays : Effect
  Writes : (l j k : ℕ) → Effect
  Opens : (l : ℕ) (w : Shape) → Effect
  Closes : (l : ℕ) → Effect

abbrev pub applied : Effect → Store → Store
applied Stays s = s
applied (Writes l j k) s = store_put s l j k
applied (Opens l w) s = array_at l w.width w.count ∷ s
applied (Closes l) s = without s l

abbrev pub renamed_effect : (ℕ → ℕ) → Effect → Effect
renamed_effect r Stays = Stays
renamed_effect r (Writes l j k) = Writes (r l) j k
renamed_effect r (Opens l w) = Opens (r l) w
renamed_effect r (Closes l) = Closes (r l)

-- a location that is taken is new to the store
abbrev pub IsFree : Effect → Store → Type 0
IsFree (Opens l w) s = entry_at s l ≡ None
IsFree e s = Unit {0}

-- a location that is written or dropped stands in the term
abbrev pub IsOwn : Effect → Term → Type 0
IsOwn (Writes l j k) m = Contains (things 0 m) (Place l)
IsOwn (Closes l) m = Contains (things 0 m) (Place l)
IsOwn e m = Unit {0}

-- an entry under its renamed location
abbrev pub carried : (ℕ → ℕ) → Option Entry → Option Entry
carried r None = None
carried r (Some e) = Some (record e { place = r e.place })

-- s' has at the renamed locations of m what s has at them
abbrev pub Serves : (ℕ → ℕ) → Term → Store → Store → Type 0
Serves r m s s' = (l : ℕ) → Contains (things 0 m) (Place l) → entry_at s' (r l) ≡ carried r (entry_at s l)

-- The effect of a doing, and that it comes again: on every store that serves the term, where what is taken is free.
pub record HasEffect (i : Imports) (path : List ℕ) (a : Doing) (s u : Store) (m t : Term) : Type 0 where
  pub effect : Effect
  pub leads : u ≡ applied effect s
  pub free : IsFree effect s
  pub own : IsOwn effect m
  pub again :
      (r : ℕ → ℕ) (s' : Store) → Serves r m s s' → IsFree (renamed_effect r effect) s'
      → DoesAt i path a s' (applied (renamed_effect r effect) s') (renamed r m) (renamed r t)

abbrev pub DoingsHaveEffects : Type 0
DoingsHaveEffects =
    (i : Imports) (path : List ℕ) (a : Doing) (s u : Store) (m t : Term) → DoesAt i path a s u m t → HasEffect i path a s u m t
