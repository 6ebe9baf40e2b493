use Rattle.std.proofs.Common.{map}
use Rattle.gos_netlist.specs.Nets.{Cell}
use Rattle.gos_netlist.specs.Seen.{cell_of}
use Rattle.gos_netlist.specs.NetText.{cell_text}
use Rattle.gos_netlist.specs.Writable.{IsWritableCell}
use Rattle.gos_netlist.proofs.LinesLemmas.{LinesSoFar}
use Rattle.gos_netlist.proofs.sections.cell_lines.Given as goal

abbrev pub invariant-loop-left : goal.invariant-loop-left
invariant-loop-left l = LinesSoFar Cell IsWritableCell cell_text l.count l.initial.cursor l.cursor (map cell_of l.cells.items) l.left

abbrev pub decreases-loop-left : goal.decreases-loop-left
decreases-loop-left l = l.left
