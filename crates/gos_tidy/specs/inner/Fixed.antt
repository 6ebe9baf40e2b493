-- What is tested of a cell that shows one number for ever.
--
-- Read first: Steady, Reading.
use Rattle.std.specs.Prelude.{◌≡◌, ◌≢◌, ◌⊎◌, ℕ, ◌^◌, ◌<◌, List, Some, slice_get, length}
use Rattle.gos_netlist.specs.Nets.{Function, Const, And, Mux, Less, Gate, Cell, NetPort}
use Rattle.gos_netcheck.specs.Rules.{Kept}
use Rattle.gos_tidy.specs.Mapped.{IsConst}
use Rattle.gos_tidy.specs.Steady.{StaysZero}
use Rattle.gos_tidy.specs.inner.Reading.{FoldsTo}

-- a gate shows k since some of its nets are constants of these cells, whatever its others show
abbrev pub IsDecided : List Cell → Function → ℕ → Type 0
IsDecided cells (And a b) k = (k ≡ 0) × (IsConst cells a 0 ⊎ IsConst cells b 0)
IsDecided cells (Mux s a b) k =
    (IsConst cells s 1 × IsConst cells a k) ⊎ (((j : ℕ) × (j ≢ 1) × IsConst cells s j × IsConst cells b k) ⊎ (IsConst cells a k × IsConst cells b k))
IsDecided cells (Less a b) k = (k ≡ 0) × IsConst cells b 0
IsDecided cells (Gate s a) k = (k ≡ 0) × (((j : ℕ) × (j ≢ 1) × IsConst cells s j) ⊎ IsConst cells a 0)
IsDecided cells g k = ⊥

-- a cell of w bits shows k for ever: its nets are constants, or enough of them are, or it is a register that reads 0
abbrev pub IsFixed : List Cell → ℕ → Function → ℕ → Type 0
IsFixed cells w g k = FoldsTo cells w g k ⊎ (IsDecided cells g k ⊎ StaysZero cells g k)

-- in the place of a cell stands the constant that it shows for ever
abbrev pub IsFixedAt : List Cell → ℕ → Cell → Type 0
IsFixedAt others n c =
    (k : ℕ) × (k < 2 ^ c.width) × (slice_get others n ≡ Some (record { width = c.width; gate = Const k })) × IsFixed others c.width c.gate k

-- or the cell itself
abbrev pub IsHeld : List Cell → ℕ → Cell → Type 0
IsHeld others n c = (slice_get others n ≡ Some c) ⊎ IsFixedAt others n c

-- all that is tested of cells and of the ports of their netlist: each of the others is the cell, or the constant that it shows for ever,
-- and at ports all are the cells
pub record AreSteadied (cells others : List Cell) (ports : List NetPort) : Type 0 where
  pub each : length others ≡ length cells
  pub held : Kept (IsHeld others) cells
  pub ends : Kept (λ _ p. Kept (λ _ n. slice_get others n ≡ slice_get cells n) p.nets) ports
