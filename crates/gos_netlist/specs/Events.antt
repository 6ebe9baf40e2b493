-- The events of ports, and of a netlist.
--
-- Read first: Nets; Events of gos_types. What else is told of the nets of a port follows from its events: a net for the
-- pulse of each, and one more behind it for its number, where it has one.
use Rattle.std.specs.Prelude.{ℕ, suc, Bool, true, false, List, [], ◌∷◌, ◌++◌, Some, None}
use Rattle.gos_types.specs.Types.{Type'}
use Rattle.gos_netlist.specs.declared.event.Event as seen
use Rattle.gos_netlist.specs.Nets.{Side, Give, Take, NetPort, Netlist}
use Rattle.gos_types.specs.Events.{Direction, Request, Answer, Event, Is, bits_of, events}

-- how many nets a port with these events has
abbrev pub nets_for : List Event → ℕ
nets_for [] = 0
nets_for (Is way None ∷ es) = suc (nets_for es)
nets_for (Is way (Some bits) ∷ es) = suc (suc (nets_for es))

-- how many nets a port of this type has: 2, 3 or 6
abbrev pub net_count : Type' → ℕ
net_count t = nets_for (events t)

-- whether the surroundings give an event: at a given port the requests, at a taken one the answers
abbrev pub is_input : Side → Direction → Bool
is_input Give Request = true
is_input Give Answer = false
is_input Take Request = false
is_input Take Answer = true

-- the events of a port at place k among the ports, of which the first has number n there
abbrev pub port_events : ℕ → Side → ℕ → List Event → List seen.Event
port_events k side n [] = []
port_events k side n (Is way number ∷ es) =
    record { port = k; place = n; input = is_input side way; bits = bits_of number } ∷ port_events k side (suc n) es

-- the events of ports, of which the first has place k
abbrev pub events_from : ℕ → List NetPort → List seen.Event
events_from k [] = []
events_from k (p ∷ ps) = port_events k p.side 0 (events p.ty) ++ events_from (suc k) ps

-- the events of a netlist, by port and then by number
abbrev pub events_of : Netlist → List seen.Event
events_of net = events_from 0 net.ports
