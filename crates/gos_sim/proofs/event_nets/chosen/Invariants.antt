use Rattle.std.proofs.Common.{◌≡◌, take}
use Rattle.std.specs.List.{filter}
use Rattle.gos_sim.specs.EventNets.{comes_in}
use Rattle.gos_sim.proofs.event_nets.chosen.Given as goal

-- those so far
abbrev pub invariant-loop-event : goal.invariant-loop-event
invariant-loop-event l = l.chosen.items ≡ filter (comes_in l.input) (take l.event-index l.events)
