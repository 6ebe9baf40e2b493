-- Small words for cells.
--
-- Read first: Nets of gos_netlist; Pools of gos_pool.
use Rattle.std.specs.Prelude.{◌≡◌, ℕ, ◌+◌, List, ◌++◌, length}
use Rattle.gos_netlist.specs.Nets.{Cell, Function, Or}
use Rattle.gos_pool.specs.Pools.{Pool, KeepsClosed}

-- a cell of one bit
abbrev pub bit : Function → Cell
bit f = record { width = 1; gate = f }

-- a cell of w bits
abbrev pub wide : ℕ → Function → Cell
wide w f = record { width = w; gate = f }

-- a cell that shows what another net of one bit shows
abbrev pub buffer : ℕ → Cell
buffer net = bit (Or net net)

-- cells are placed behind those of a pool, and nothing else is changed
pub record Places (cells : List Cell) (old new : Pool) : Type 0 where
  pub added : new.cells ≡ old.cells ++ cells
  pub used : old.spare ≡ new.spare + length cells
  pub begun : new.begun ≡ old.begun
  pub closed : new.closed ≡ old.closed
  pub kept : KeepsClosed old new
