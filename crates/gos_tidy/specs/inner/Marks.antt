-- Marks of the cells that stay.
--
-- Read first: Tidy.
use Rattle.std.specs.Prelude.{◌≡◌, ◌⊎◌, ℕ, ◌+◌, ◌<◌, Bool, true, false, List, [], ◌∷◌, Some, slice_get, length, Contains, sum_by}
use Rattle.gos_netlist.specs.Nets.{Function, Input, Cell, pins}
use Rattle.gos_tidy.specs.Tidy.{LeadsTo}

-- the net is marked
abbrev pub IsMarked : List Bool → ℕ → Type 0
IsMarked marks n = slice_get marks n ≡ Some true

-- the net's cell is an input
abbrev pub IsInputAt : List Cell → ℕ → Type 0
IsInputAt cells n = (c : Cell) × (slice_get cells n ≡ Some c) × (c.gate ≡ Input)

-- the net, if it is an input's
abbrev pub if_input : ℕ → Function → List ℕ
if_input n Input = n ∷ []
if_input n g = []

-- the net is an input, or leads to an end
abbrev pub IsLive : List Cell → List ℕ → ℕ → Type 0
IsLive cells ends n = IsInputAt cells n ⊎ LeadsTo cells ends n

-- what is marked: inputs, ends, and what marked cells name; and nothing but inputs and what leads to an end
pub record AreMarks (cells : List Cell) (ends : List ℕ) (marks : List Bool) : Type 0 where
  pub count : length marks ≡ length cells
  pub inputs : (n : ℕ) → IsInputAt cells n → IsMarked marks n
  pub at_ends : (i n : ℕ) → slice_get ends i ≡ Some n → IsMarked marks n
  pub closed : (n a : ℕ) (c : Cell) → IsMarked marks n → slice_get cells n ≡ Some c → Contains (pins c.gate) a → IsMarked marks a
  pub live : (n : ℕ) → IsMarked marks n → IsLive cells ends n

-- how many nets aren't marked
abbrev pub missing : Bool → ℕ
missing true = 0
missing false = 1

abbrev pub unmarked : List Bool → ℕ
unmarked marks = sum_by missing marks

-- nets are found where they are marked
pub record AreFound (marks : List Bool) (found : List ℕ) : Type 0 where
  pub listed : (n : ℕ) → IsMarked marks n → (i : ℕ) × (slice_get found i ≡ Some n)
  pub marked : (i n : ℕ) → slice_get found i ≡ Some n → IsMarked marks n

-- These nets have been marked, and no others. What is found now stands behind what was.
pub record Grows (nets : List ℕ) (marks : List Bool) (found : List ℕ) (now : List Bool) (list : List ℕ) : Type 0 where
  pub count : length now ≡ length marks
  pub keeps : (n : ℕ) → IsMarked marks n → IsMarked now n
  pub all : (n : ℕ) → Contains nets n → IsMarked now n
  pub only : (n : ℕ) → IsMarked now n → IsMarked marks n ⊎ Contains nets n
  pub front : (i n : ℕ) → slice_get found i ≡ Some n → slice_get list i ≡ Some n
  pub same : (i n : ℕ) → i < length found → slice_get list i ≡ Some n → slice_get found i ≡ Some n
  pub finds : AreFound marks found → AreFound now list
  pub total : unmarked now + length list ≡ unmarked marks + length found

-- The search: the first i inputs and the first e ends are marked, and what the first `next` nets name that were found.
pub record IsSearch (cells : List Cell) (ends : List ℕ) (marks : List Bool) (found : List ℕ) (i e next : ℕ) : Type 0 where
  pub count : length marks ≡ length cells
  pub finds : AreFound marks found
  pub inputs : (n : ℕ) → n < i → IsInputAt cells n → IsMarked marks n
  pub at_ends : (k n : ℕ) → k < e → slice_get ends k ≡ Some n → IsMarked marks n
  pub closed : (k n a : ℕ) (c : Cell) → k < next → slice_get found k ≡ Some n → slice_get cells n ≡ Some c → Contains (pins c.gate) a → IsMarked marks a
  pub live : (n : ℕ) → IsMarked marks n → IsLive cells ends n
