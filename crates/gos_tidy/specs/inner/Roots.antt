-- What is tested of cells that stand for others, cell by cell.
--
-- Read first: Mapped, Reduced, Reading.
use Rattle.std.specs.Prelude.{◌≡◌, ℕ, ◌<◌, ◌≤◌, ◌⊎◌, List, Some, slice_get, length}
use Rattle.gos_netlist.specs.Nets.{Input, Cell}
use Rattle.gos_netlist.specs.Settling.{at}
use Rattle.gos_netcheck.specs.Rules.{Kept}
use Rattle.gos_tidy.specs.Mapped.{IsConst, IsShort, Stands}
use Rattle.gos_tidy.specs.Reduced.{HasWidth, Stays}
use Rattle.gos_tidy.specs.inner.Reading.{FoldsTo, IsClosedOf}

-- the cell of net n stands for the one that it goes to, which has its root at net n or before it, but where it is short
pub record IsPlaced (others : List Cell) (f : ℕ → ℕ) (roots : List ℕ) (n : ℕ) (c : Cell) : Type 0 where
  pub stands : Stands others f n c
  pub width : HasWidth others (f n) c.width
  pub input : c.gate ≡ Input → at roots (f n) ≡ n
  pub early : IsShort others f n c.width c.gate ⊎ (at roots (f n) ≤ n)

-- net n has this cell, or the constant that a cell, which names nets of these cells, shows
abbrev pub StaysAs : List Cell → ℕ → Cell → Type 0
StaysAs others n c =
    (slice_get others n ≡ Some c) ⊎ (((k : ℕ) × FoldsTo others c.width c.gate k × IsConst others n k) ⊎ IsClosedOf others n c.gate)

-- net m is the root of cell i of the others
abbrev pub IsRoot : List Cell → List Cell → (ℕ → ℕ) → ℕ → ℕ → Type 0
IsRoot cells others f i m = (f m ≡ i) × (c : Cell) × (slice_get cells m ≡ Some c) × Stays others f m c

-- the roots are right, and rise
pub record AreRoots (cells others : List Cell) (f : ℕ → ℕ) (roots : List ℕ) : Type 0 where
  pub each : Kept (IsRoot cells others f) roots
  pub rises : (i j m n : ℕ) → i < j → slice_get roots i ≡ Some m → slice_get roots j ≡ Some n → m < n

-- all of so many nets, each at its own place
pub record AreAll (count : ℕ) (nets : List ℕ) : Type 0 where
  pub long : length nets ≡ count
  pub each : (i n : ℕ) → slice_get nets i ≡ Some n → n ≡ i
