use Rattle.std.proofs.Common.{◌≡◌, map, take}
use Rattle.gos_netlist.specs.Settling.{at}
use Rattle.gos_tidy.specs.inner.Places.{port_nets}
use Rattle.gos_tidy.proofs.drop.ends_of.Given as goal

abbrev pub invariant-loop-port : goal.invariant-loop-port
invariant-loop-port l = l.ends.items ≡ map (at l.targets) (port_nets (take l.port-index l.ports))
