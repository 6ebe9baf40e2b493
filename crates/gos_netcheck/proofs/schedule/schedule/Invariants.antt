use Rattle.std.proofs.Common.{ℕ, ◌+◌, ◌-◌, ◌<◌, ◌≤◌, length, map}
use Rattle.std.specs.Prelude.{slice_get}
use Rattle.gos_netlist.specs.Seen.{cell_of}
use Rattle.gos_netcheck.specs.inner.Search.{Stands, IsBegun, steps_left}
use Rattle.gos_netcheck.proofs.schedule.schedule.Given as goal

-- no net before the next one is new
abbrev pub invariant-loop-alloc : goal.invariant-loop-alloc
invariant-loop-alloc l =
    Stands (map cell_of l.cells) l.search × (l.next ≤ length l.cells)
    × ((k : ℕ) → k < l.next → IsBegun (slice_get l.search.marks.items k))

abbrev pub decreases-loop-alloc : goal.decreases-loop-alloc
decreases-loop-alloc l = steps_left l.search.marks.items + (length l.cells - l.next)
