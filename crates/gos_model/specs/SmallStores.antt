-- Laws of stores, and small stores.
--
-- Read first: Stores.
use Rattle.std.specs.Prelude.{◌≡◌, ◌≢◌, ℕ, [], ◌∷◌, length, Some, None}
use Rattle.gos_model.specs.Stores.{Entry, variable_at, Store, entry_at, number_at, store_put, without}

-- what is read behind a write is what was written, where there was a number
abbrev pub ReadsWhatIsWritten : Type 0
ReadsWhatIsWritten = (s : Store) (l j k n : ℕ) → number_at s l j ≡ Some n → number_at (store_put s l j k) l j ≡ Some k

-- the number at another index of the location stays
abbrev pub OtherIndexStays : Type 0
OtherIndexStays = (s : Store) (l i j k : ℕ) → i ≢ j → number_at (store_put s l i k) l j ≡ number_at s l j

-- where there is no number nothing changes: at an index outside the location's numbers, and at a location that the store doesn't have
abbrev pub OutsideChangesNothing : Type 0
OutsideChangesNothing = (s : Store) (l j k : ℕ) → number_at s l j ≡ None → store_put s l j k ≡ s

-- another location stays
abbrev pub OtherLocationStays : Type 0
OtherLocationStays = (s : Store) (l m j k : ℕ) → l ≢ m → entry_at (store_put s l j k) m ≡ entry_at s m

-- and each location keeps its width and how many numbers it has
abbrev pub LengthsStay : Type 0
LengthsStay =
    (s : Store) (l m j k : ℕ) (e : Entry) → entry_at s m ≡ Some e
    → (d : Entry) × (entry_at (store_put s l j k) m ≡ Some d) × (d.width ≡ e.width) × (length d.numbers ≡ length e.numbers)

-- location 0 with the three numbers 5, n and 7 of eight bits
abbrev pub three_numbers : ℕ → Store
three_numbers n = record { place = 0; width = 8; numbers = 5 ∷ n ∷ 7 ∷ [] } ∷ []

-- index 1 is read and written, index 3 isn't there, and neither is location 1
abbrev pub ThreeNumbers : Type 0
ThreeNumbers =
    (number_at (three_numbers 6) 0 1 ≡ Some 6) × (number_at (three_numbers 6) 0 3 ≡ None) × (number_at (three_numbers 6) 1 0 ≡ None)
    × (store_put (three_numbers 6) 0 1 9 ≡ three_numbers 9) × (store_put (three_numbers 6) 0 1 9 ≡ three_numbers 6 → ⊥)
    × (store_put (three_numbers 6) 0 3 9 ≡ three_numbers 6) × (store_put (three_numbers 6) 1 1 9 ≡ three_numbers 6)

-- a variable has a number at index 0, and no other
abbrev pub VariableHasOne : Type 0
VariableHasOne =
    (s : Store) (l w k : ℕ) → (number_at (variable_at l w k ∷ s) l 0 ≡ Some k) × (number_at (variable_at l w k ∷ s) l 1 ≡ None)

-- Of two entries of one location the first is read and written, and both are dropped. What the first doesn't have isn't
-- looked for in the second.
abbrev pub FirstCounts : Type 0
FirstCounts =
    (number_at (variable_at 0 8 1 ∷ three_numbers 6) 0 0 ≡ Some 1) × (number_at (variable_at 0 8 1 ∷ three_numbers 6) 0 1 ≡ None)
    × (store_put (variable_at 0 8 1 ∷ three_numbers 6) 0 0 9 ≡ variable_at 0 8 9 ∷ three_numbers 6)
    × (store_put (variable_at 0 8 1 ∷ three_numbers 6) 0 1 9 ≡ variable_at 0 8 1 ∷ three_numbers 6)
    × (without (variable_at 0 8 1 ∷ three_numbers 6) 0 ≡ [])
