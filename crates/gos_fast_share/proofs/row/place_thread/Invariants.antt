use Rattle.std.proofs.Common.{◌≡◌, ◌+◌, ◌≤◌, ◌++◌, length, drop}
use Rattle.gos_pool.specs.Pools.{KeepsClosed}
use Rattle.gos_macro.specs.Wires.{incoming_of}
use Rattle.gos_fast_share.specs.Thread.{requests}
use Rattle.gos_fast_share.specs.Fast.{thread_cells}
use Rattle.gos_fast_share.specs.inner.Seen.{all_of}
use Rattle.gos_fast_share.proofs.row.place_thread.Given as goal

-- the cells so far and those to come are all cells, and so are their numbers
abbrev pub invariant-loop-e : goal.invariant-loop-e
invariant-loop-e l =
    (l.pool.cells ++ thread_cells (all_of l.ty) (incoming_of l.wires) l.base l.at (drop l.e-index l.order)
    ≡ l.initial.pool.cells ++ thread_cells (all_of l.ty) (incoming_of l.wires) l.base 1 l.order)
    × (l.at + requests (all_of l.ty) (drop l.e-index l.order) ≡ 1 + requests (all_of l.ty) l.order)
    × (l.pool.spare + length l.pool.cells ≡ l.initial.pool.spare + length l.initial.pool.cells)
    × (requests (all_of l.ty) (drop l.e-index l.order) ≤ l.pool.spare)
    × (l.pool.begun ≡ l.initial.pool.begun)
    × (l.pool.closed ≡ l.initial.pool.closed)
    × KeepsClosed l.initial.pool l.pool
    × (l.region ≡ l.initial.region)
