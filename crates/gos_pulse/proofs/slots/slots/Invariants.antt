use Rattle.std.proofs.Common.{◌≡◌, ◌≤◌, true}
use Rattle.gos_pulse.specs.inner.Slots.{number_of}
use Rattle.gos_pulse.proofs.SlotLemmas.{SlotsTo}
use Rattle.gos_pulse.proofs.slots.slots.Given as goal

-- the slots so far
abbrev pub invariant-loop-event : goal.invariant-loop-event
invariant-loop-event l =
    record {
      slots : SlotsTo l.events l.event-index l.slots.items;
      some : l.inputs ≤ l.event-index;
      count : l.inputs ≡ number_of true l.events l.event-index;
    }
