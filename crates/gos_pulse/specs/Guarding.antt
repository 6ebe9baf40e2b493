-- What a guard knows: which handshakes are open after the pulses seen so far.
--
-- Read first: Protocol of gos_model, Events of gos_netlist. The pulses so far are labels, newest first. Cycles don't
-- show in them: the outputs of a cycle come before its inputs, so after an input its handshake allows no second one
-- in that cycle.
use Rattle.std.specs.Prelude.{◌≡◌, ℕ, zero, suc, ◌^◌, ◌<◌, Bool, true, false, not, List, Some, if◌then◌else◌, [], ◌∷◌, length, map, slice_get, get_or}
use Rattle.gos_netlist.specs.declared.event.Event.{Event}
use Rattle.gos_types.specs.Types.{IsDone}
use Rattle.gos_netlist.specs.Nets.{Give, NetPort, Netlist}
use Rattle.gos_netlist.specs.Events.{events_of}
use Rattle.gos_model.specs.Labels.{Label, is_answer}
use Rattle.gos_pace.specs.Flattening.{port_of}
use Rattle.gos_model.specs.Protocol.{is_open}
use Rattle.gos_pulse.specs.declared.guard.Half.{Half}
use Rattle.gos_pulse.specs.declared.guard.Guard.{Guard}

-- whether an event comes in, where that is asked, or goes out
abbrev pub goes : Bool → Event → Bool
goes true event = event.input
goes false event = not event.input

-- the input events and the output events, in event order: the i-th of them is input, or output, number i
abbrev pub events_way : Bool → List Event → List Event
events_way inputs [] = []
events_way inputs (event ∷ events) = if goes inputs event then event ∷ events_way inputs events else events_way inputs events

abbrev pub inputs_of : Netlist → List Event
inputs_of net = events_way true (events_of net)

abbrev pub outputs_of : Netlist → List Event
outputs_of net = events_way false (events_of net)

-- a label of the i-th of these events
pub record IsLabel (net : Netlist) (events : List Event) (i : ℕ) (l : Label) : Type 0 where
  pub event : Event
  pub port : NetPort
  pub there : slice_get events i ≡ Some event
  pub at : slice_get net.ports event.port ≡ Some port
  pub port_is : l.port ≡ port_of port.side port.name
  pub event_is : l.event ≡ event.place

-- a value has at most the bits of the i-th of these events
abbrev pub IsValueOf : List Event → ℕ → ℕ → Type 0
IsValueOf events i value = (event : Event) → slice_get events i ≡ Some event → value < 2 ^ event.bits

-- no two ports are one to a label: at most one gives, and the names of those taken differ
abbrev pub PortsDiffer : List NetPort → Type 0
PortsDiffer ports =
    (i j : ℕ) (p q : NetPort) → slice_get ports i ≡ Some p → slice_get ports j ≡ Some q → port_of p.side p.name ≡ port_of q.side q.name → i ≡ j

-- and a port that gives carries a command or an expression
pub record HasPorts (net : Netlist) : Type 0 where
  pub differ : PortsDiffer net.ports
  pub given : (i : ℕ) (p : NetPort) → slice_get net.ports i ≡ Some p → p.side ≡ Give → IsDone p.ty

-- whether the event at this place of a port belongs to the second of the port's handshakes
abbrev pub is_second : ℕ → Bool
is_second zero = false
is_second (suc zero) = false
is_second (suc (suc n)) = true

-- an event as half of a handshake: its port, which handshake of the port, and whether it is the request
abbrev pub half_of : Event → Half
half_of event = record { port = event.port; second = is_second event.place; request = not (is_answer event.place) }

-- the halves of the events that come in, or of those that go out
abbrev pub halves_of : Bool → List Event → List Half
halves_of inputs events = map half_of (events_way inputs events)

-- the guard knows the events of the netlist, and which handshakes are open after these labels, newest first
pub record Guards (net : Netlist) (past : List Label) (guard : Guard) : Type 0 where
  pub inputs : guard.inputs.items ≡ halves_of true (events_of net)
  pub outputs : guard.outputs.items ≡ halves_of false (events_of net)
  pub first_each : length guard.flags.first.items ≡ length net.ports
  pub second_each : length guard.flags.second.items ≡ length net.ports
  pub first : (i : ℕ) (p : NetPort) → slice_get net.ports i ≡ Some p → get_or guard.flags.first.items i false ≡ is_open past (port_of p.side p.name) 0
  pub second : (i : ℕ) (p : NetPort) → slice_get net.ports i ≡ Some p → get_or guard.flags.second.items i false ≡ is_open past (port_of p.side p.name) 1
