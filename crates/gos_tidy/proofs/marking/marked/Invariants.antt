use Rattle.std.proofs.Common.{map, length, ◌≤◌, ◌-◌, ◌+◌}
use Rattle.gos_netlist.specs.Seen.{cell_of}
use Rattle.gos_tidy.specs.inner.Marks.{IsSearch, unmarked}
use Rattle.gos_tidy.proofs.marking.marked.Given as goal

-- what the nets name that have been looked at is marked
abbrev pub invariant-loop-next : goal.invariant-loop-next
invariant-loop-next l =
    IsSearch (map cell_of l.cells) l.ends l.marking.marks.items l.marking.found.items (length l.cells) (length l.ends) l.next
    × (l.next ≤ length l.marking.found.items)

abbrev pub decreases-loop-next : goal.decreases-loop-next
decreases-loop-next l = unmarked l.marking.marks.items + (length l.marking.found.items - l.next)
