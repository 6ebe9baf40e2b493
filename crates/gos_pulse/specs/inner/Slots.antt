-- Where the events of a netlist stand among those of their way, and the labels of pulses.
--
-- Read first: Guarding. Between the driver and its lemmas.
use Rattle.std.specs.Prelude.{◌≡◌, ℕ, Bool, List, [], ◌∷◌, ◌++◌, Option, Some, None, length, take, slice_get, if◌then◌else◌}
use Rattle.gos_netlist.specs.declared.event.Event.{Event}
use Rattle.gos_netlist.specs.Nets.{NetPort}
use Rattle.gos_model.specs.Labels.{Port, Given, Label}
use Rattle.gos_pace.specs.Flattening.{port_of}
use Rattle.gos_sim.specs.declared.pulse.Pulse.{Pulse}
use Rattle.gos_pulse.specs.declared.slots.Slot.{Slot}
use Rattle.gos_pulse.specs.Guarding.{events_way}

-- the number of the event at this place of the events, among those of one way
abbrev pub number_of : Bool → List Event → ℕ → ℕ
number_of inputs events i = length (events_way inputs (take i events))

-- a slot for each event: its way, and its number among the events of that way
pub record AreSlots (events : List Event) (slots : List Slot) : Type 0 where
  pub each : length slots ≡ length events
  pub input : (i : ℕ) (event : Event) (slot : Slot) → slice_get events i ≡ Some event → slice_get slots i ≡ Some slot → slot.input ≡ event.input
  pub place : (i : ℕ) (event : Event) (slot : Slot) → slice_get events i ≡ Some event → slice_get slots i ≡ Some slot → slot.place ≡ number_of event.input events i

-- the port in a label
abbrev pub port_at : Option NetPort → Port
port_at None = Given
port_at (Some port) = port_of port.side port.name

-- the label of an event with this value
abbrev pub label_of : List NetPort → Event → ℕ → Label
label_of ports event value = record { port = port_at (slice_get ports event.port); event = event.place; value = value }

-- the label of an event whose pulse this is, if it happens
abbrev pub label_if : List NetPort → Event → Pulse → List Label
label_if ports event pulse = if pulse.on then label_of ports event pulse.value ∷ [] else []

-- the labels of these events, each with its pulse
abbrev pub labels_of : List NetPort → List Event → List Pulse → List Label
labels_of ports [] pulses = []
labels_of ports (event ∷ events) [] = []
labels_of ports (event ∷ events) (pulse ∷ pulses) = label_if ports event pulse ++ labels_of ports events pulses
