-- The lines of a trace that a cycle adds.
--
-- Read first: Slots, Traced. Between the driver's functions and their lemmas.
use Rattle.std.specs.Prelude.{◌≡◌, ℕ, Bool, not, List, [], ◌∷◌, ◌++◌, length, if◌then◌else◌}
use Rattle.gos_netlist.specs.Nets.{Netlist}
use Rattle.gos_netlist.specs.Events.{events_of}
use Rattle.gos_model.specs.Labels.{Label}
use Rattle.gos_sim.specs.declared.pulse.Pulse.{Pulse}
use Rattle.gos_pulse.specs.declared.slots.Slot.{Slot}
use Rattle.gos_pulse.specs.declared.trace.TraceLine.{TraceLine}
use Rattle.gos_pulse.specs.Guarding.{events_way}
use Rattle.gos_pulse.specs.Traced.{AreLines}
use Rattle.gos_pulse.specs.inner.Slots.{AreSlots}

-- a pulse does not happen
abbrev pub is_off : Pulse → Bool
is_off pulse = not pulse.on

-- the line of an event's pulse in cycle t, if it happens
abbrev pub line_if : ℕ → ℕ → Pulse → List TraceLine
line_if t event pulse = if pulse.on then record { cycle = t; event = event; value = pulse.value } ∷ [] else []

-- the slots are those of the netlist, and there is a pulse for each event that goes this way
pub record HavePulses (net : Netlist) (inputs : Bool) (slots : List Slot) (pulses : List Pulse) : Type 0 where
  pub slots_of : AreSlots (events_of net) slots
  pub each : length pulses ≡ length (events_way inputs (events_of net))

-- lines behind these are the labels, as pulses of cycle t
pub record AddsLines (net : Netlist) (t : ℕ) (labels : List Label) (old new : List TraceLine) : Type 0 where
  pub now : List TraceLine
  pub is : new ≡ old ++ now
  pub lines : AreLines net t now labels
