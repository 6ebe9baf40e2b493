-- Stores: the numbers of the local variables and arrays of a running program.
--
-- A store begins empty, and a location is new where the store has nothing at it. So no location has two entries. A location has
-- a list of numbers, of one width, whose length stays as it was made: a variable has one number, at index 0.
use Rattle.std.specs.Prelude.{ℕ, List, [], ◌∷◌, set, slice_get, Option, Some, None, nat_eq, replicate, if◌then◌else◌}

-- a location, the width of its numbers, and the numbers in the order of their indexes
pub record Entry : Type 0 where
  pub place : ℕ
  pub width : ℕ
  pub numbers : List ℕ

-- a variable at location l, of w bits, with the number k
abbrev pub variable_at : ℕ → ℕ → ℕ → Entry
variable_at l w k = record { place = l; width = w; numbers = k ∷ [] }

-- an array at location l, of n numbers of w bits, all 0
abbrev pub array_at : ℕ → ℕ → ℕ → Entry
array_at l w n = record { place = l; width = w; numbers = replicate n 0 }

-- a finite map: of two entries for one location the first counts
abbrev pub Store : Type 0
Store = List Entry

-- what the store has at a location
abbrev pub entry_at : Store → ℕ → Option Entry
entry_at [] l = None
entry_at (e ∷ s) l = if nat_eq e.place l then Some e else entry_at s l

-- the number at index j, counted from 0, of an entry, if there is one
abbrev pub number_in : Option Entry → ℕ → Option ℕ
number_in None j = None
number_in (Some e) j = slice_get e.numbers j

-- what the store has at index j of location l
abbrev pub number_at : Store → ℕ → ℕ → Option ℕ
number_at s l j = number_in (entry_at s l) j

-- the store with the number k at index j of location l; an index outside the location's numbers changes nothing
abbrev pub store_put : Store → ℕ → ℕ → ℕ → Store
store_put [] l j k = []
store_put (e ∷ s) l j k = if nat_eq e.place l then record e { numbers = set e.numbers j k } ∷ s else e ∷ store_put s l j k

-- the store without location l
abbrev pub without : Store → ℕ → Store
without [] l = []
without (e ∷ s) l = if nat_eq e.place l then without s l else e ∷ without s l
