use Rattle.std.proofs.Common.{◌≡◌, ◌+◌, ◌≤◌, ◌++◌, length}
use Rattle.gos_pool.specs.Pools.{KeepsClosed}
use Rattle.gos_macro.specs.Wires.{incoming_of}
use Rattle.gos_share.specs.Share.{row_cells}
use Rattle.gos_share.specs.inner.Seen.{all_of, from, blocks_size}
use Rattle.gos_share.proofs.row.place_row.Given as goal

-- the cells so far and those to come are all cells, and so are their numbers
abbrev pub invariant-loop-k : goal.invariant-loop-k
invariant-loop-k l =
    (l.pool.cells ++ row_cells (incoming_of l.wires) l.count l.j l.base l.at l.branch.kept.0 l.branch.set.0 (from l.j l.ty)
    ≡ l.initial.pool.cells ++ row_cells (incoming_of l.wires) l.count 0 l.base 3 (l.base + 0) (l.base + 2) (all_of l.ty))
    × (l.j + length (from l.j l.ty) ≡ l.count)
    × (l.at + blocks_size (from l.j l.ty) ≡ 3 + blocks_size (all_of l.ty))
    × (l.pool.spare + length l.pool.cells ≡ l.initial.pool.spare + length l.initial.pool.cells)
    × (blocks_size (from l.j l.ty) + 1 ≤ l.pool.spare)
    × (l.pool.begun ≡ l.initial.pool.begun)
    × (l.pool.closed ≡ l.initial.pool.closed)
    × KeepsClosed l.initial.pool l.pool
    × (l.region ≡ l.initial.region)

abbrev pub decreases-loop-k : goal.decreases-loop-k
decreases-loop-k l = length (from l.j l.ty)
