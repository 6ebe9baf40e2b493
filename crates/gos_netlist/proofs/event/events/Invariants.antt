use Rattle.std.proofs.Common.{◌≡◌, ◌++◌, drop}
use Rattle.gos_netlist.specs.Events.{events_of, events_from}
use Rattle.gos_netlist.proofs.event.events.Given as goal

abbrev pub invariant-loop-place : goal.invariant-loop-place
invariant-loop-place l = l.all.items ++ events_from l.place (drop l.place l.net.ports) ≡ events_of l.net
