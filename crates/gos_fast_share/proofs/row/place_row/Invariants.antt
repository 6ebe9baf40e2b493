use Rattle.std.proofs.Common.{◌≡◌, ◌+◌, ◌≤◌, ◌++◌, length}
use Rattle.gos_pool.specs.Pools.{KeepsClosed}
use Rattle.gos_macro.specs.Wires.{incoming_of}
use Rattle.gos_fast_share.specs.Fast.{row_cells}
use Rattle.gos_fast_share.specs.inner.Seen.{all_of, from, blocks_size}
use Rattle.gos_fast_share.proofs.row.place_row.Given as goal

-- the cells so far and those to come are all cells, and so are their numbers
abbrev pub invariant-loop-shared : goal.invariant-loop-shared
invariant-loop-shared l =
    (l.pool.cells ++ row_cells (all_of l.ty) l.order (incoming_of l.wires) l.j l.base l.at (from l.j l.ty)
    ≡ l.initial.pool.cells ++ row_cells (all_of l.ty) l.order (incoming_of l.wires) 0 l.base l.start (all_of l.ty))
    × (l.j + length (from l.j l.ty) ≡ l.count)
    × (l.at + blocks_size (from l.j l.ty) ≡ l.start + blocks_size (all_of l.ty))
    × (l.pool.spare + length l.pool.cells ≡ l.initial.pool.spare + length l.initial.pool.cells)
    × (blocks_size (from l.j l.ty) ≤ l.pool.spare)
    × (l.pool.begun ≡ l.initial.pool.begun)
    × (l.pool.closed ≡ l.initial.pool.closed)
    × KeepsClosed l.initial.pool l.pool
    × (l.region ≡ l.initial.region)

abbrev pub decreases-loop-shared : goal.decreases-loop-shared
decreases-loop-shared l = length (from l.j l.ty)
