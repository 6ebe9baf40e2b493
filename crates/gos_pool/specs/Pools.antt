-- Pools of cells, and their regions.
--
-- Read first: Nets. Says nothing of how the memory of a pool is taken.
use Rattle.std.specs.Prelude.{◌≡◌, ◌≤◌, ◌-◌, ℕ, List, [], ◌∷◌, ◌++◌, Option, None, length, unwrap_or, slice_range, Contains}
use Rattle.gos_netlist.specs.Nets.{Cell}
use Rattle.gos_pool.specs.declared.region.ClosedRegion.{ClosedRegion}

-- A pool: its cells, of which each one's place is its net; the regions that are closed; the start of the region that
-- is begun, if one is; and how many more cells and closed regions, together, have their memory already.
pub record Pool : Type 0 where
  pub cells : List Cell
  pub closed : List ClosedRegion
  pub begun : Option ℕ
  pub spare : ℕ

-- the pool with a cell behind the others
abbrev pub with_cell : Pool → Cell → Pool
with_cell pool cell = record pool { cells = pool.cells ++ cell ∷ []; spare = pool.spare - 1 }

-- the pool with the region closed that started there, up to the end of the cells
abbrev pub with_closed : Pool → ℕ → Pool
with_closed pool start = record pool {
  closed = pool.closed ++ record { start = start; end = length pool.cells } ∷ [];
  begun = None;
  spare = pool.spare - 1;
}

-- the cells of a closed region
abbrev pub cells_of : Pool → ClosedRegion → List Cell
cells_of pool region = slice_range pool.cells region.start region.end

-- a region that ends at a place or ahead of it
abbrev pub EndsBy : ℕ → ClosedRegion → Type 0
EndsBy place region = region.end ≤ place

-- Each closed region of the first pool is one of the second, and has the same cells there.
pub record KeepsClosed (old new : Pool) : Type 0 where
  pub closed : (region : ClosedRegion) → Contains old.closed region → Contains new.closed region
  pub cells : (region : ClosedRegion) → Contains old.closed region → cells_of new region ≡ cells_of old region

-- Regions that lie between two places, one after the other. There may be cells between them.
abbrev pub Follow : ℕ → List ClosedRegion → ℕ → Type 0
Follow low [] high = low ≤ high
Follow low (region ∷ regions) high = (low ≤ region.start) × (region.start ≤ region.end) × Follow region.end regions high

-- where the closed regions end at the latest: at the start of the region that is begun, or at the end of the cells
abbrev pub closed_end : Pool → ℕ
closed_end pool = unwrap_or pool.begun (length pool.cells)

-- the closed regions lie one after the other, ahead of the region that is begun and within the cells
pub record IsInOrder (pool : Pool) : Type 0 where
  pub apart : Follow 0 pool.closed (closed_end pool)
  pub within : closed_end pool ≤ length pool.cells
