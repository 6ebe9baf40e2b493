-- How clauses see the pools of this crate's program, and what is true inside each.
use Rattle.std.specs.Prelude.{◌+◌, ◌≤◌, map, vec_len, vec_capacity}
use Rattle.gos_netlist.specs.Seen.{cell_of}
use Rattle.gos_pool.specs.declared.pool.NetPool.TheInside.{Inside}
use Rattle.gos_pool.specs.Pools.{Pool, IsInOrder}

-- a pool, with what its cells' gates compute
abbrev pub pool_of : Inside → Pool
pool_of pool = record { cells = map cell_of pool.cells.items; closed = pool.closed.items; begun = pool.begun; spare = pool.spare }

-- Each of both vectors has room for spare more members, and a cell's number fits in 32 bits.
pub record IsKept (pool : Inside) : Type 0 where
  pub cells_room : vec_len pool.cells + pool.spare ≤ vec_capacity pool.cells
  pub closed_room : vec_len pool.closed + pool.spare ≤ vec_capacity pool.closed
  pub numbered : vec_len pool.cells + pool.spare ≤ 4294967295
  pub in_order : IsInOrder (pool_of pool)
