-- A run of a netlist under a pulse file.
--
-- Read first: Entries; Flattening, RunProtocol and Silence of gos_pace. In each cycle the outputs are seen first. Then all `at`
-- entries of the cycle are taken, in the file's order: the run ends at the first of them that the protocol doesn't
-- allow. Then the first `next` entry that is not given yet is looked at. It is given in this cycle where its distance
-- has passed since the cycle of the `next` entry given before it, or since cycle 0, and where the protocol allows it.
-- This is repeated until an entry is not given or none is left.
use Rattle.std.specs.Prelude.{◌≡◌, ◌≤◌, ◌<◌, ◌+◌, ◌^◌, ◌⊎◌, ℕ, suc, IsTrue, not, ◌&&◌, ◌==◌, List, [], ◌∷◌, ◌++◌, length, reverse, Some, slice_get, if◌then◌else◌}
use Rattle.gos_netlist.specs.declared.event.Event.{Event}
use Rattle.gos_netlist.specs.Nets.{NetPort, Netlist}
use Rattle.gos_netlist.specs.Events.{events_of}
use Rattle.gos_netlist.specs.Settling.{Numbers, IsRun}
use Rattle.gos_model.specs.Labels.{Label}
use Rattle.gos_pace.specs.Flattening.{port_of, outputs, inputs, AnyOrder}
use Rattle.gos_model.specs.Protocol.{Allowed}
use Rattle.gos_pace.specs.RunProtocol.{taken_by}
use Rattle.gos_pace.specs.Silence.{InputsAreClean}
use Rattle.gos_pulse.specs.declared.entries.Entry.{Entry}
use Rattle.gos_pulse.specs.declared.fault.PulseFault.{PulseFault}
use Rattle.gos_pulse.specs.declared.fault.PulseFault.TheVariants as faults

-- the entry gives an input event of the netlist, with a value of the event's bits: 0 where it has none
pub record GivesInput (net : Netlist) (entry : Entry) : Type 0 where
  pub event : Event
  pub there : slice_get (events_of net) entry.event ≡ Some event
  pub input : IsTrue event.input
  pub fits : entry.value < 2 ^ event.bits

-- the label of a pulse of the event of this number, with this value
pub record IsPulse (net : Netlist) (number value : ℕ) (l : Label) : Type 0 where
  pub event : Event
  pub port : NetPort
  pub there : slice_get (events_of net) number ≡ Some event
  pub at : slice_get net.ports event.port ≡ Some port
  pub is : l ≡ record { port = port_of port.side port.name; event = event.place; value = value }

-- the entry's pulse is this label, and may come after these, newest first
abbrev pub MayCome : Netlist → List Label → Entry → Label → Type 0
MayCome net past entry l = IsPulse net entry.event entry.value l × Allowed (taken_by net.ports) past l.port l.event l.value

-- the `at` entries of a cycle, and the `next` entries of the file
abbrev pub at_entries : ℕ → List Entry → List Entry
at_entries t [] = []
at_entries t (entry ∷ entries) = if entry.at && (entry.number == t) then entry ∷ at_entries t entries else at_entries t entries

abbrev pub next_entries : List Entry → List Entry
next_entries [] = []
next_entries (entry ∷ entries) = if not entry.at then entry ∷ next_entries entries else next_entries entries

-- all these entries are taken, one after another, as these labels
abbrev pub TakesAll : Netlist → List Label → List Entry → List Label → Type 0
TakesAll net past [] labels = labels ≡ []
TakesAll net past (entry ∷ entries) [] = ⊥
TakesAll net past (entry ∷ entries) (l ∷ labels) = MayCome net past entry l × TakesAll net (l ∷ past) entries labels

-- the first of these entries that the protocol doesn't allow gives this event
abbrev pub BreaksAt : Netlist → List Label → List Entry → ℕ → Type 0
BreaksAt net past [] event = ⊥
BreaksAt net past (entry ∷ entries) event =
    (((l : Label) → MayCome net past entry l → ⊥) × (event ≡ entry.event))
    ⊎ ((l : Label) × MayCome net past entry l × BreaksAt net (l ∷ past) entries event)

-- the `next` entry that comes first, if there is one, is not given in cycle t
abbrev pub IsHeld : Netlist → List Label → ℕ → ℕ → List Entry → Type 0
IsHeld net past t since [] = Unit {0}
IsHeld net past t since (entry ∷ entries) = since + entry.number ≤ t → (l : Label) → MayCome net past entry l → ⊥

-- In cycle t these labels are given, one after another, for the first of the `next` entries. What is left is `rest`,
-- and the last entry was given in cycle `last`.
abbrev pub GivesIn : Netlist → List Label → ℕ → ℕ → List Entry → List Label → ℕ → List Entry → Type 0
GivesIn net past t since entries [] last rest = IsHeld net past t since entries × (last ≡ since) × (rest ≡ entries)
GivesIn net past t since [] (l ∷ labels) last rest = ⊥
GivesIn net past t since (entry ∷ entries) (l ∷ labels) last rest =
    (since + entry.number ≤ t) × MayCome net past entry l × GivesIn net (l ∷ past) t t entries labels last rest

-- Cycle t, in which the nets show v, goes by the file: after the outputs these labels are taken and then given, and
-- they are the inputs. What is left of the `next` entries is `rest`, the last of them given in cycle `last`.
pub record GoesBy (net : Netlist) (file : List Entry) (past : List Label) (t since : ℕ) (queue : List Entry) (v : Numbers)
    (came : List Label) (last : ℕ) (rest : List Entry) : Type 0 where
  pub taken : List Label
  pub given : List Label
  pub takes : TakesAll net (reverse (outputs net v) ++ past) (at_entries t file) taken
  pub gives : GivesIn net (reverse taken ++ (reverse (outputs net v) ++ past)) t since queue given last rest
  pub inputs : AnyOrder (taken ++ given) (inputs net v)
  pub after : came ≡ reverse (taken ++ given) ++ (reverse (outputs net v) ++ past)

-- From cycle t on, of a run with the values of its nets in each cycle, each cycle goes by the file. The file's `next`
-- entries from `queue` on are not given yet, and so many of them never are.
abbrev pub DrivesFrom : Netlist → List Entry → List Label → ℕ → ℕ → List Entry → List Numbers → ℕ → Type 0
DrivesFrom net file past t since queue [] unused = unused ≡ length queue
DrivesFrom net file past t since queue (v ∷ vs) unused =
    (came : List Label) × (last : ℕ) × (rest : List Entry)
    × GoesBy net file past t since queue v came last rest × DrivesFrom net file came (suc t) last rest vs unused

-- the run of the netlist from reset, of so many cycles, under these entries, of which so many are never given
abbrev pub IsDriven : Netlist → ℕ → List Entry → List Numbers → ℕ → Type 0
IsDriven net cycles file vs unused =
    (ins : List Numbers) × InputsAreClean net ins × IsRun net.cells ins vs × (length vs ≡ cycles)
    × DrivesFrom net file [] 0 0 (next_entries file) vs unused

-- From cycle t on, all goes by the file up to this cycle, in which the first `at` entry that breaks the protocol
-- gives this event. The outputs of a cycle don't depend on its inputs, so the values of the last cycle may be
-- of any inputs.
abbrev pub BreaksFrom : Netlist → List Entry → List Label → ℕ → ℕ → List Entry → List Numbers → ℕ → ℕ → Type 0
BreaksFrom net file past t since queue [] cycle event = ⊥
BreaksFrom net file past t since queue (v ∷ []) cycle event =
    (cycle ≡ t) × BreaksAt net (reverse (outputs net v) ++ past) (at_entries t file) event
BreaksFrom net file past t since queue (v ∷ w ∷ vs) cycle event =
    (came : List Label) × (last : ℕ) × (rest : List Entry)
    × GoesBy net file past t since queue v came last rest × BreaksFrom net file came (suc t) last rest (w ∷ vs) cycle event

-- the run is broken in this cycle, which is one of its first `cycles`, by an entry of this event
abbrev pub IsBroken : Netlist → ℕ → List Entry → ℕ → ℕ → Type 0
IsBroken net cycles file cycle event =
    (cycle < cycles) × (ins : List Numbers) × (vs : List Numbers) × InputsAreClean net ins × IsRun net.cells ins vs
    × BreaksFrom net file [] 0 0 (next_entries file) vs cycle event

-- the fault is that the run is broken
abbrev pub BreaksAs : Netlist → ℕ → List Entry → PulseFault → Type 0
BreaksAs net cycles file (faults.Broken cycle event) = IsBroken net cycles file cycle event
BreaksAs net cycles file fault = ⊥
