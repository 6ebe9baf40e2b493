use Rattle.std.proofs.Common.{◌≡◌, ◌+◌, ◌++◌, map, take}
use Rattle.gos_netlist.specs.Seen.{cell_of}
use Rattle.gos_pool.specs.Pools.{KeepsClosed}
use Rattle.gos_expand.specs.Into.{raised_cell}
use Rattle.gos_expand.proofs.into.place_raised.Given as goal

-- the cells so far stand in the pool, raised
abbrev pub invariant-loop-cell : goal.invariant-loop-cell
invariant-loop-cell l =
    (l.pool.cells ≡ l.initial.pool.cells ++ map (raised_cell l.by) (map cell_of (take l.cell-index l.cells)))
    × (l.pool.begun ≡ l.initial.pool.begun) × (l.pool.spare + l.cell-index ≡ l.initial.pool.spare)
    × KeepsClosed l.initial.pool l.pool × (l.region ≡ l.initial.region)
