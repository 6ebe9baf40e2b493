use Rattle.std.proofs.Common.{map, length}
use Rattle.gos_netlist.specs.Seen.{cell_of}
use Rattle.gos_tidy.specs.inner.Marks.{IsSearch}
use Rattle.gos_tidy.proofs.marking.begun.Given as goal

-- the inputs so far are marked
abbrev pub invariant-loop-n : goal.invariant-loop-n
invariant-loop-n l = IsSearch (map cell_of l.cells) l.ends l.marking.marks.items l.marking.found.items l.n 0 0

-- and then the ends so far
abbrev pub invariant-loop-end : goal.invariant-loop-end
invariant-loop-end l = IsSearch (map cell_of l.cells) l.ends l.marking.marks.items l.marking.found.items (length l.cells) l.end-index 0
