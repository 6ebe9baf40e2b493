-- The protocol of inputs.
--
-- Read first: Labels. Which runs of a netlist keep it is said in RunProtocol of gos_pace. The circuit promises nothing of a run
-- whose inputs come out of turn.
use Rattle.std.specs.Prelude.{◌≡◌, ℕ, zero, suc, ◌^◌, ◌<◌, Bool, true, false, not, ◌&&◌, IsTrue, IsFalse, List, [], ◌∷◌, Option, Some, None, slice_get, nat_eq, if◌then◌else◌}
use Rattle.std.specs.Str.{bytes_eq}
use Rattle.gos_types.specs.Types.{Type'}
use Rattle.gos_model.specs.Typing.{Imports, import_type}
use Rattle.gos_model.specs.Labels.{Port, Given, Taken, Label, is_answer, is_output}
use Rattle.gos_types.specs.Events.{Event, Is, Answer, bits_of, events}

-- the number of an event's handshake within its port
abbrev pub shake_of : ℕ → ℕ
shake_of zero = 0
shake_of (suc zero) = 0
shake_of (suc (suc n)) = suc (shake_of n)

-- whether two ports are one
abbrev pub same_port : Port → Port → Bool
same_port Given Given = true
same_port Given (Taken y) = false
same_port (Taken x) Given = false
same_port (Taken x) (Taken y) = bytes_eq x y

-- Whether handshake h of a port is open: its last label is a request. The labels stand newest first.
abbrev pub is_open : List Label → Port → ℕ → Bool
is_open [] p h = false
is_open (l ∷ past) p h =
    if same_port l.port p && nat_eq (shake_of l.event) h then not (is_answer l.event) else is_open past p h

-- event n of a port of this type, if there is one
abbrev pub event_of : Option Type' → ℕ → Option Event
event_of None n = None
event_of (Some t) n = slice_get (events t) n

-- the event is an answer, and the number k has at most its bits
abbrev pub FitsAnswer : Option Event → ℕ → Type 0
FitsAnswer (Some (Is Answer number)) k = k < 2 ^ bits_of number
FitsAnswer event k = ⊥

-- Whether the input of event n with number k may come after these labels, newest first: a request at the given port
-- where it is idle, an answer at a taken port where its request is open.
abbrev pub Allowed : Imports → List Label → Port → ℕ → ℕ → Type 0
Allowed i past Given n k = (n ≡ 0) × (k ≡ 0) × IsFalse (is_open past Given 0)
Allowed i past (Taken x) n k = FitsAnswer (event_of (import_type i x) n) k × IsTrue (is_open past (Taken x) (shake_of n))

-- each input is allowed by the labels before it, of which `past` came first
abbrev pub KeepsAfter : Imports → List Label → List Label → Type 0
KeepsAfter i past [] = Unit {0}
KeepsAfter i past (l ∷ ls) =
    (IsFalse (is_output l) → Allowed i past l.port l.event l.value) × KeepsAfter i (l ∷ past) ls

-- the labels keep the protocol of inputs
abbrev pub KeepsProtocol : Imports → List Label → Type 0
KeepsProtocol i ls = KeepsAfter i [] ls
