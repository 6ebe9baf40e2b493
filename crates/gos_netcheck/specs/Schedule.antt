-- Orders in which the nets of a cycle can be evaluated.
--
-- Read first: Nets and Cycles of gos_netlist.
use Rattle.std.specs.Prelude.{◌≡◌, ℕ, ◌<◌, List, take, length, Some, slice_get, Contains}
use Rattle.gos_netlist.specs.Nets.{Cell}
use Rattle.gos_netlist.specs.Cycles.{Feeds}

-- a net is due where it has not come yet and all that feeds its cell has
abbrev pub IsDue : List Cell → List ℕ → ℕ → Type 0
IsDue cells before b = (b < length cells) × (Contains before b → ⊥) × ((a : ℕ) → Feeds cells a b → Contains before a)

-- each net comes once, and behind all that feeds its cell
pub record IsSchedule (cells : List Cell) (order : List ℕ) : Type 0 where
  pub due : (i b : ℕ) → slice_get order i ≡ Some b → IsDue cells (take i order) b
  pub all : (n : ℕ) → n < length cells → Contains order n
