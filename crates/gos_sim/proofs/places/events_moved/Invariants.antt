use Rattle.std.proofs.Common.{◌≡◌, map, take}
use Rattle.gos_netlist.specs.Settling.{at}
use Rattle.gos_sim.specs.inner.Places.{event_moved}
use Rattle.gos_sim.proofs.places.events_moved.Given as goal

-- the events so far
abbrev pub invariant-loop-event : goal.invariant-loop-event
invariant-loop-event l = l.there.items ≡ map (event_moved (at l.places)) (take l.event-index l.events)
