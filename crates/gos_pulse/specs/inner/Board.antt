-- What the driver's board holds between two cycles, and in a cycle after some inputs were given.
--
-- Read first: Slots, Driving. Between the driver's functions and their lemmas.
use Rattle.std.specs.Prelude.{◌≡◌, ℕ, ◌^◌, ◌<◌, Bool, true, false, List, [], ◌∷◌, ◌++◌, length, reverse, Some, slice_get, not}
use Rattle.gos_netlist.specs.declared.event.Event.{Event}
use Rattle.gos_netlist.specs.Nets.{NetPort, Netlist}
use Rattle.gos_netlist.specs.Events.{events_of}
use Rattle.gos_model.specs.Labels.{Label, is_answer}
use Rattle.gos_pace.specs.Flattening.{port_of, AnyOrder}
use Rattle.gos_model.specs.Protocol.{shake_of, is_open}
use Rattle.gos_sim.specs.declared.pulse.Pulse.{Pulse}
use Rattle.gos_sim.specs.Cycle.{Simulator, IsNextOutput}
use Rattle.gos_pulse.specs.declared.board.Board.{Board}
use Rattle.gos_pulse.specs.declared.entries.Entry.{Entry}
use Rattle.gos_pulse.specs.Guarding.{Guards, inputs_of, outputs_of}
use Rattle.gos_pulse.specs.Driving.{GivesInput, MayCome}
use Rattle.gos_pulse.specs.inner.Slots.{AreSlots, labels_of}

-- the board of a netlist after these labels, newest first
pub record Rests (net : Netlist) (past : List Label) (board : Board) : Type 0 where
  pub slots : AreSlots (events_of net) board.slots.items
  pub guards : Guards net past board.guard
  pub inputs : length board.inputs.items ≡ length (inputs_of net)
  pub outputs : length board.outputs.items ≡ length (outputs_of net)

-- each pulse has at most the bits of its event, and no value where it does not happen
abbrev pub AreInRange : List Event → List Pulse → Type 0
AreInRange events pulses =
    (k : ℕ) (event : Event) (pulse : Pulse) → slice_get events k ≡ Some event → slice_get pulses k ≡ Some pulse
    → (pulse.value < 2 ^ event.bits) × (pulse.on ≡ false → pulse.value ≡ 0)

-- the last pulse of the event's handshake went the event's way
abbrev pub IsSpent : Netlist → List Label → Event → Type 0
IsSpent net past event =
    (port : NetPort) → slice_get net.ports event.port ≡ Some port → is_open past (port_of port.side port.name) (shake_of event.place) ≡ not (is_answer event.place)

-- each event whose pulse happens is spent
abbrev pub AreSpent : Netlist → List Label → List Pulse → Type 0
AreSpent net past pulses =
    (k : ℕ) (event : Event) (pulse : Pulse) → slice_get (inputs_of net) k ≡ Some event → slice_get pulses k ≡ Some pulse
    → pulse.on ≡ true → IsSpent net past event

-- In a cycle, after these labels of which its outputs came last, these inputs were given.
pub record Stands (net : Netlist) (past given : List Label) (board : Board) : Type 0 where
  pub rests : Rests net (reverse given ++ past) board
  pub in_range : AreInRange (inputs_of net) board.inputs.items
  pub order : AnyOrder given (labels_of net.ports (inputs_of net) board.inputs.items)
  pub spent : AreSpent net (reverse given ++ past) board.inputs.items

-- the outputs on the board were seen after these labels, and nothing was given yet
abbrev pub HasSeen : Netlist → List Label → Board → Type 0
HasSeen net past board = Stands net (reverse (labels_of net.ports (outputs_of net) board.outputs.items) ++ past) [] board

-- a cycle has begun: its outputs, whatever its inputs are to be, were seen after these labels
pub record Begins (sim : Simulator) (past : List Label) (board : Board) : Type 0 where
  pub next : IsNextOutput sim board.outputs.items
  pub stands : HasSeen sim.net past board

-- the board stands so after some labels
abbrev pub IsBoardOf : Netlist → Board → Type 0
IsBoardOf net board = (past : List Label) × (given : List Label) × Stands net past given board

-- an entry may be tried on the board
abbrev pub CanTry : Board → Entry → Type 0
CanTry board entry = (net : Netlist) × IsBoardOf net board × GivesInput net entry

-- an entry was tried: it was given, or the protocol does not allow it
abbrev pub IsTried : Netlist → List Label → List Label → Entry → Bool → Board → Type 0
IsTried net past given entry true board = (l : Label) × MayCome net (reverse given ++ past) entry l × Stands net past (given ++ l ∷ []) board
IsTried net past given entry false board = ((l : Label) → MayCome net (reverse given ++ past) entry l → ⊥) × Stands net past given board
