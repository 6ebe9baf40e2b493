use Rattle.std.proofs.Common.{◌≡◌, map, take}
use Rattle.gos_netlist.specs.Settling.{at}
use Rattle.gos_tidy.specs.Ends.{with_nets}
use Rattle.gos_tidy.proofs.drop.moved_ports.Given as goal

abbrev pub invariant-loop-port : goal.invariant-loop-port
invariant-loop-port l = l.moved.items ≡ map (with_nets (λ n. at l.numbers (at l.targets n))) (take l.port-index l.ports)
