-- The nets at which the events of a netlist come in and go out.
--
-- Read first: Nets and Events of gos_netlist.
use Rattle.std.specs.Prelude.{◌≡◌, ℕ, suc, List, [], ◌∷◌, Bool, true, false, Option, Some, None, filter, get_or, ◌⊎◌}
use Rattle.std.specs.List.{flat_map}
use Rattle.std.specs.Bool.{beq}
use Rattle.gos_types.specs.Types.{Type'}
use Rattle.gos_netlist.specs.Nets.{Side, NetPort, Netlist}
use Rattle.gos_netlist.specs.Events.{is_input}
use Rattle.gos_types.specs.Events.{Direction, Event, Is, events}
use Rattle.gos_sim.specs.declared.event_nets.EventNets.{EventNets}

-- an event of this direction, with the net of its pulse and, where it has one, that of its number
abbrev pub nets_of_event : Side → Direction → ℕ → Option ℕ → EventNets
nets_of_event side way a x = record { input = is_input side way; pulse = a; number = x }

-- the net at a place among those of a port
abbrev pub net_at : List ℕ → ℕ → ℕ
net_at nets n = get_or nets n 0

-- the nets of events, of which the first has its pulse at place n among those of a port
abbrev pub nets_of_events : Side → List Event → List ℕ → ℕ → List EventNets
nets_of_events side [] ns n = []
nets_of_events side (Is way None ∷ es) ns n =
    nets_of_event side way (net_at ns n) None ∷ nets_of_events side es ns (suc n)
nets_of_events side (Is way (Some bits) ∷ es) ns n =
    nets_of_event side way (net_at ns n) (Some (net_at ns (suc n))) ∷ nets_of_events side es ns (suc (suc n))

-- the nets of the events of a port of this type
abbrev pub events_at : Side → Type' → List ℕ → List EventNets
events_at side t ns = nets_of_events side (events t) ns 0

abbrev pub port_events : NetPort → List EventNets
port_events p = events_at p.side p.ty p.nets

-- the events of a netlist, by port and then by number
abbrev pub all_events : Netlist → List EventNets
all_events net = flat_map port_events net.ports

-- the event comes in, or goes out
abbrev pub comes_in : Bool → EventNets → Bool
comes_in input e = beq e.input input

-- those that the surroundings give
abbrev pub input_events : Netlist → List EventNets
input_events net = filter (comes_in true) (all_events net)

-- those that the circuit gives
abbrev pub output_events : Netlist → List EventNets
output_events net = filter (comes_in false) (all_events net)

-- a fact that holds of a number's net, where there is one
abbrev pub OnNumber : (ℕ → Type 0) → Option ℕ → Type 0
OnNumber P None = Unit {0}
OnNumber P (Some x) = P x

-- a fact that holds of each net of an event
abbrev pub OnNets : (ℕ → Type 0) → EventNets → Type 0
OnNets P e = P e.pulse × OnNumber P e.number

-- the net is one of the event's
abbrev pub Names : EventNets → ℕ → Type 0
Names e a = (a ≡ e.pulse) ⊎ (e.number ≡ Some a)
