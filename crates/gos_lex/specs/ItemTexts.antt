-- Items of a text that is the text of some value: that a cursor has passed one.
--
-- Read first: Items.
use Rattle.std.specs.Prelude.{◌≡◌, ℕ, ◌<◌, ◌≤◌, List, [], ◌∷◌, ◌++◌, length, get_or}
use Rattle.std.specs.List.{slice_range}
use Rattle.std.specs.Fmt.{decimal}
use Rattle.gos_lex.specs.Items.{Misses, TextAt, Passes}
use Rattle.gos_lex.specs.Decimals.{IsDecimalIn}

-- the bytes are the text of some value of this kind
abbrev pub IsTextOf : (V : Type 0) → (V → Type 0) → (V → List ℕ) → List ℕ → Type 0
IsTextOf V Is text bytes = (v : V) × Is v × (bytes ≡ text v)

-- the cursor has passed these bytes
pub record Passed (old new : TextAt) (bytes : List ℕ) : Type 0 where
  pub text : new.text ≡ old.text
  pub after : old.at ≤ new.at
  pub within : new.at ≤ length old.text
  pub is : slice_range old.text old.at new.at ≡ bytes

-- a text and the byte that ends it
abbrev pub ended : ℕ → List ℕ → List ℕ
ended end text = text ++ end ∷ []

-- these bytes
abbrev pub IsFixed : List ℕ → List ℕ → Type 0
IsFixed bytes = IsTextOf (Unit {0}) (λ _. Unit {0}) (λ _. bytes)

-- one of these words
abbrev pub IsAmong : List (List ℕ) → List ℕ → Type 0
IsAmong words = IsTextOf ℕ (λ k. k < length words) (λ k. get_or words k [])

-- a number of a range, and the byte that ends it
abbrev pub IsInRange : ℕ → ℕ → ℕ → Type 0
IsInRange low high n = (low ≤ n) × (n ≤ high)

abbrev pub IsNumberText : ℕ → ℕ → ℕ → List ℕ → Type 0
IsNumberText low high end = IsTextOf ℕ (IsInRange low high) (λ n. ended end (decimal n))

-- At `at` stands a count that is above its limit. The count is the longest number up to 4,294,967,295 there.
pub record IsAbove (limit : ℕ) (text : List ℕ) (at : ℕ) : Type 0 where
  pub count : ℕ
  pub end : ℕ
  pub passes : Passes (IsDecimalIn 0 4294967295) text at end
  pub value : slice_range text at end ≡ decimal count
  pub known : count ≤ 4294967295
  pub above : limit < count

-- a number and its line feed break off there, and no count that is above its limit stands there
abbrev pub NoCount : ℕ → List ℕ → ℕ → ℕ → Type 0
NoCount limit text at place = Misses (IsNumberText 0 4294967295 10) text at place × (IsAbove limit text at → ⊥)
