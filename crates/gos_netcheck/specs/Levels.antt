-- The levels of cells: a cell that reads others stands above all of them.
--
-- Read first: Nets, Settling (`at`) and SmallNets of gos_netlist; Schedule.
use Rattle.std.specs.Prelude.{◌≡◌, ℕ, suc, List, [], ◌∷◌, Some, slice_get, length, max}
use Rattle.gos_netlist.specs.Nets.{Function, Input, Const, Or, And, Reg, Cell, pins}
use Rattle.gos_netlist.specs.Settling.{Numbers, at}
use Rattle.gos_netlist.specs.SmallNets.{bit, latch}
use Rattle.gos_netcheck.specs.Schedule.{IsSchedule}

-- the greatest level of nets, 0 where there are none
abbrev pub greatest : (ℕ → ℕ) → List ℕ → ℕ
greatest levels [] = 0
greatest levels (a ∷ []) = levels a
greatest levels (a ∷ b ∷ ns) = max (levels a) (greatest levels (b ∷ ns))

-- The level of a cell: 0 where its value is known before any other's, else one more than the greatest of its pins.
abbrev pub level_of : Function → (ℕ → ℕ) → ℕ
level_of Input levels = 0
level_of (Const k) levels = 0
level_of (Reg a) levels = 0
level_of f levels = suc (greatest levels (pins f))

-- a number for each cell, and it is the level that its pins give it
pub record AreLevels (cells : List Cell) (levels : Numbers) : Type 0 where
  pub each : length levels ≡ length cells
  pub leveled : (n : ℕ) (c : Cell) → slice_get cells n ≡ Some c → at levels n ≡ level_of c.gate (at levels)

-- cells that can be evaluated in an order have no levels but these
abbrev pub HaveOneLevels : List Cell → Type 0
HaveOneLevels cells = (order levels others : List ℕ) → IsSchedule cells order → AreLevels cells levels → AreLevels cells others → levels ≡ others

-- in a latch the gate alone stands above others
abbrev pub LatchHasLevels : Type 0
LatchHasLevels = AreLevels latch.cells (0 ∷ 1 ∷ 0 ∷ 0 ∷ [])

-- a gate that reads another one stands above it
abbrev pub GatesRise : Type 0
GatesRise = AreLevels (bit (And 1 2) ∷ bit (Or 2 3) ∷ bit Input ∷ bit (Reg 0) ∷ bit (Const 1) ∷ []) (2 ∷ 1 ∷ 0 ∷ 0 ∷ 0 ∷ [])

-- a combinational cycle has no levels
abbrev pub RingHasNoLevels : Type 0
RingHasNoLevels = (levels : Numbers) → AreLevels (bit Input ∷ bit (Or 0 2) ∷ bit (And 1 0) ∷ bit (Reg 1) ∷ []) levels → ⊥
