use Rattle.std.proofs.Common.{◌≡◌, take}
use Rattle.std.specs.List.{flat_map}
use Rattle.gos_sim.specs.EventNets.{port_events}
use Rattle.gos_sim.proofs.event_nets.all_events.Given as goal

-- the events of the ports so far
abbrev pub invariant-loop-port : goal.invariant-loop-port
invariant-loop-port l = l.events.items ≡ flat_map port_events (take l.port-index l.ports)
