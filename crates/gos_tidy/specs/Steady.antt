-- Netlists in which cells that show one number for ever have become constants.
--
-- Read first: Mapped; Nets and Settling of gos_netlist. A cell becomes a constant in its place, and no net gets another number.
-- Why it may is said of the cells as they are then: so registers that hold each other at 0 become constants together.
use Rattle.std.specs.Prelude.{◌≡◌, ◌⊎◌, ℕ, ◌^◌, ◌<◌, List, Some, slice_get, length}
use Rattle.gos_netlist.specs.Nets.{Function, Const, Reg, Cell, Netlist}
use Rattle.gos_netlist.specs.Settling.{shown}
use Rattle.gos_netcheck.specs.Rules.{Kept}
use Rattle.gos_tidy.specs.Mapped.{IsConst}

-- a gate of w bits shows k whatever the nets show that are no constants of these cells
abbrev pub ShowsAlways : List Cell → ℕ → Function → ℕ → Type 0
ShowsAlways cells w g k = (r i : ℕ) (v : ℕ → ℕ) → ((a j : ℕ) → IsConst cells a j → v a ≡ j) → shown w g r i v ≡ k

-- a register reads the constant 0, and so shows 0: in the first cycle, and in each one after it
abbrev pub StaysZero : List Cell → Function → ℕ → Type 0
StaysZero cells g k = (a : ℕ) × (g ≡ Reg a) × IsConst cells a 0 × (k ≡ 0)

-- in the place of a cell stands the constant that it shows for ever
abbrev pub IsSteady : List Cell → ℕ → Cell → Type 0
IsSteady others n c =
    (k : ℕ) × (k < 2 ^ c.width) × (slice_get others n ≡ Some (record { width = c.width; gate = Const k }))
    × (ShowsAlways others c.width c.gate k ⊎ StaysZero others c.gate k)

-- the second netlist is the first one with some of its cells, but none at a port, as the constants that they show for ever
pub record IsSteadied (net other : Netlist) : Type 0 where
  pub each : length other.cells ≡ length net.cells
  pub cells : (n : ℕ) (c : Cell) → slice_get net.cells n ≡ Some c → (slice_get other.cells n ≡ Some c) ⊎ IsSteady other.cells n c
  pub ports : other.ports ≡ net.ports
  pub ends : Kept (λ _ p. Kept (λ _ n. slice_get other.cells n ≡ slice_get net.cells n) p.nets) net.ports
