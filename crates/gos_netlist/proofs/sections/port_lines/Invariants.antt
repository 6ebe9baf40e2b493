use Rattle.gos_netlist.specs.Nets.{NetPort}
use Rattle.gos_netlist.specs.NetText.{port_text}
use Rattle.gos_netlist.specs.Writable.{IsWritablePort}
use Rattle.gos_netlist.proofs.LinesLemmas.{LinesSoFar}
use Rattle.gos_netlist.proofs.sections.port_lines.Given as goal

abbrev pub invariant-loop-left : goal.invariant-loop-left
invariant-loop-left l = LinesSoFar NetPort IsWritablePort port_text l.count l.initial.cursor l.cursor l.ports.items l.left

abbrev pub decreases-loop-left : goal.decreases-loop-left
decreases-loop-left l = l.left
