-- An item of a text of fixed form, as a word, a number or a name: that it stands at a place, and where it breaks off.
--
-- What the items are is given by a relation on lists of bytes. Places count bytes from 0.
use Rattle.std.specs.Prelude.{◌≡◌, ℕ, ◌+◌, ◌<◌, ◌≤◌, List, ◌++◌, length}
use Rattle.std.specs.List.{slice_range}

-- a text, and how far it is read
pub record TextAt : Type 0 where
  pub text : List ℕ
  pub at : ℕ

-- these bytes, and no others
abbrev pub IsJust : List ℕ → List ℕ → Type 0
IsJust bytes part = part ≡ bytes

-- some item begins with these bytes
abbrev pub Begins : (List ℕ → Type 0) → List ℕ → Type 0
Begins IsItem bytes = (more : List ℕ) × IsItem (bytes ++ more)

-- an item stands at `at` to `to`, and no longer one begins at `at`
pub record Passes (IsItem : List ℕ → Type 0) (text : List ℕ) (at to : ℕ) : Type 0 where
  pub after : at ≤ to
  pub within : to ≤ length text
  pub item : IsItem (slice_range text at to)
  pub longest : (end : ℕ) → end ≤ length text → IsItem (slice_range text at end) → end ≤ to

-- `place` is the first place that can't belong to an item that begins at `at`: some item begins with the bytes before it,
-- and none with those and its own, or the text ends there
pub record StopsAt (IsItem : List ℕ → Type 0) (text : List ℕ) (at place : ℕ) : Type 0 where
  pub after : at ≤ place
  pub within : place ≤ length text
  pub before : Begins IsItem (slice_range text at place)
  pub stops : place < length text → Begins IsItem (slice_range text at (place + 1)) → ⊥

-- no item stands at `at`, and what begins like one breaks off at `place`
pub record Misses (IsItem : List ℕ → Type 0) (text : List ℕ) (at place : ℕ) : Type 0 where
  pub stops : StopsAt IsItem text at place
  pub none : (end : ℕ) → at ≤ end → end ≤ length text → IsItem (slice_range text at end) → ⊥

-- an item breaks off at one place alone
abbrev pub BreaksOffOnce : (List ℕ → Type 0) → Type 0
BreaksOffOnce IsItem =
    (text : List ℕ) (at place other : ℕ) → StopsAt IsItem text at place → StopsAt IsItem text at other → place ≡ other
