-- How many levels a cycle visits: those in which some cell reads a net that has changed.
--
-- Read first: Cycle; SmallNets of gos_netlist; Schedule and Levels of gos_netcheck.
use Rattle.std.specs.Prelude.{◌≡◌, ◌≢◌, ℕ, ◌<◌, List, [], ◌∷◌, Contains, Some, slice_get, length, replicate}
use Rattle.gos_netlist.specs.Nets.{Cell, pins}
use Rattle.gos_netlist.specs.Cycles.{Distinct}
use Rattle.gos_netlist.specs.Settling.{Numbers, at, Settling}
use Rattle.gos_netlist.specs.SmallNets.{latch}
use Rattle.gos_netcheck.specs.Schedule.{IsSchedule}
use Rattle.gos_netcheck.specs.Levels.{AreLevels}

-- the settling where all registers and inputs are 0
abbrev pub IsZeroSettling : List Cell → Numbers → Type 0
IsZeroSettling cells v = Settling cells (replicate (length cells) 0) (replicate (length cells) 0) v

-- A level above 0 is visited where one of its cells has a pin whose value differs from the one before.
pub record IsVisited (cells : List Cell) (levels before now : Numbers) (level : ℕ) : Type 0 where
  pub net : ℕ
  pub cell : Cell
  pub pin : ℕ
  pub is : slice_get cells net ≡ Some cell
  pub stands : at levels net ≡ level
  pub above : 0 < level
  pub reads : Contains (pins cell.gate) pin
  pub differs : at now pin ≢ at before pin

-- So many levels are visited: those in a list without repetition, and no others.
pub record VisitsLevels (cells : List Cell) (before now : Numbers) (count : ℕ) : Type 0 where
  pub levels : Numbers
  pub leveled : AreLevels cells levels
  pub visited : List ℕ
  pub distinct : Distinct visited
  pub counted : length visited ≡ count
  pub sound : (l : ℕ) → Contains visited l → IsVisited cells levels before now l
  pub whole : (l : ℕ) → IsVisited cells levels before now l → Contains visited l

-- How many levels were visited in the last of these settlings, where the newest one stands first. Before the first one all
-- registers and inputs were 0.
abbrev pub HasVisited : List Cell → List Numbers → ℕ → Type 0
HasVisited cells [] count = count ≡ 0
HasVisited cells (v ∷ []) count = (w : Numbers) × IsZeroSettling cells w × VisitsLevels cells w v count
HasVisited cells (v ∷ w ∷ vs) count = VisitsLevels cells w v count

-- cells that can be evaluated in an order have one count
abbrev pub HaveOneCount : List Cell → Type 0
HaveOneCount cells =
    (order : List ℕ) (settlings : List Numbers) (count other : ℕ) → IsSchedule cells order
    → HasVisited cells settlings count → HasVisited cells settlings other → count ≡ other

-- in the first cycle of a latch its request comes, in the second one it goes, and in the third one nothing changes
abbrev pub LatchVisits : Type 0
LatchVisits =
    HasVisited latch.cells ((1 ∷ 1 ∷ 0 ∷ 0 ∷ []) ∷ []) 1
    × HasVisited latch.cells ((0 ∷ 1 ∷ 1 ∷ 1 ∷ []) ∷ (1 ∷ 1 ∷ 0 ∷ 0 ∷ []) ∷ []) 1
    × HasVisited latch.cells ((0 ∷ 1 ∷ 1 ∷ 1 ∷ []) ∷ (0 ∷ 1 ∷ 1 ∷ 1 ∷ []) ∷ []) 0
