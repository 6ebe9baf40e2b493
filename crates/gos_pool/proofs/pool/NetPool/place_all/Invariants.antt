use Rattle.std.proofs.Common.{◌≡◌, ◌+◌, ◌++◌, map, take}
use Rattle.gos_netlist.specs.Seen.{cell_of}
use Rattle.gos_pool.specs.Pools.{KeepsClosed}
use Rattle.gos_pool.proofs.pool.NetPool.place_all.Given as goal

abbrev pub invariant-loop-cell : goal.invariant-loop-cell
invariant-loop-cell l =
    (l.self.cells ≡ l.initial.self.cells ++ map cell_of (take l.cell-index l.cells)) × (l.self.begun ≡ l.initial.self.begun)
    × (l.self.closed ≡ l.initial.self.closed) × (l.self.spare + l.cell-index ≡ l.initial.self.spare)
    × KeepsClosed l.initial.self l.self × (l.region ≡ l.initial.region)
