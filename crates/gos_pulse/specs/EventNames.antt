-- The names of a netlist's events, as files and traces write them.
--
-- Read first: Events of gos_netlist.
use Rattle.std.specs.Prelude.{◌≡◌, ℕ, List, [], ◌∷◌, ◌++◌, Option, Some, None, codes, slice_get, IsTrue}
use Rattle.std.specs.Option.{unwrap_or}
use Rattle.gos_types.specs.Types.{Type', Com, Exp, Var}
use Rattle.gos_netlist.specs.declared.event.Event.{Event}
use Rattle.gos_netlist.specs.Nets.{NetPort, Netlist}
use Rattle.gos_netlist.specs.Events.{events_of}
use Rattle.gos_lex.specs.Lines.{Word}

-- the names of the events of a port of this type, by place
abbrev pub event_words : Type' → List Word
event_words Com = codes "run" ∷ codes "done" ∷ []
event_words (Exp w) = codes "ask" ∷ codes "ans" ∷ []
event_words (Var w) = codes "read" ∷ codes "ans" ∷ codes "write" ∷ codes "done" ∷ []
event_words t = []

-- the name of the event at a place; none where there is no such event
abbrev pub event_word : Type' → ℕ → Word
event_word ty place = unwrap_or (slice_get (event_words ty) place) []

-- PORT.EVENT
abbrev pub dotted : Word → Word → Word
dotted port event = port ++ 46 ∷ event

-- the name of the event at a place of a port
abbrev pub name_at : Option NetPort → ℕ → Word
name_at None place = []
name_at (Some port) place = dotted port.name (event_word port.ty place)

-- the name of an event of these ports
abbrev pub name_of : List NetPort → Event → Word
name_of ports event = name_at (slice_get ports event.port) event.place

-- the name of the event at a place of a list; none where there is no event
abbrev pub name_if : List NetPort → Option Event → Word
name_if ports None = []
name_if ports (Some event) = name_of ports event

-- the name of the event of this number, in event order
abbrev pub name_of_number : Netlist → ℕ → Word
name_of_number net number = name_if net.ports (slice_get (events_of net) number)

-- the event at this place of a list is an input event of these ports, with this name
pub record IsInputOf (ports : List NetPort) (events : List Event) (i : ℕ) (event : Event) (name : Word) : Type 0 where
  pub there : slice_get events i ≡ Some event
  pub input : IsTrue event.input
  pub named : name_of ports event ≡ name

-- number i, in event order, is that of an input event with this name
abbrev pub IsInput : Netlist → ℕ → Event → Word → Type 0
IsInput net i event name = IsInputOf net.ports (events_of net) i event name
