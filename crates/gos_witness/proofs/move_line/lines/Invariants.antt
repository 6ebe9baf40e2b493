use Rattle.std.proofs.Common.{[], List}
use Rattle.gos_witness.specs.declared.moves.Line.{Line}
use Rattle.gos_witness.specs.inner.Left.{Leads}
use Rattle.gos_witness.specs.inner.Parts.{LinesLeft}
use Rattle.gos_witness.proofs.move_line.lines.Given as goal

-- so many lines are left behind those that are passed
abbrev pub invariant-loop-left : goal.invariant-loop-left
invariant-loop-left l = Leads (List Line) (LinesLeft l.count []) (LinesLeft l.left l.lines.items) l.initial.cursor l.cursor

abbrev pub decreases-loop-left : goal.decreases-loop-left
decreases-loop-left l = l.left
