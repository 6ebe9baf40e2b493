-- The nets of ports at which outputs go, and ports with other nets.
--
-- Read first: Events of gos_netlist; PortRules of gos_netcheck, which has the like of inputs.
use Rattle.std.specs.Prelude.{ℕ, if◌then◌else◌, List, [], ◌∷◌, ◌++◌, map, Some, None}
use Rattle.std.specs.List.{flat_map}
use Rattle.gos_types.specs.Events.{Direction, Event, Is, events}
use Rattle.gos_netlist.specs.Nets.{Side, NetPort}
use Rattle.gos_netlist.specs.Events.{is_input}

-- the nets of an event, if it is an output
abbrev pub if_output : Side → Direction → List ℕ → List ℕ
if_output side way nets = if is_input side way then [] else nets

-- The nets of the outputs among these events. An event without a number has one net, another one a second for its number.
abbrev pub outputs_among : Side → List Event → List ℕ → List ℕ
outputs_among side (Is way None ∷ es) (a ∷ nets) = if_output side way (a ∷ []) ++ outputs_among side es nets
outputs_among side (Is way (Some b) ∷ es) (a ∷ x ∷ nets) = if_output side way (a ∷ x ∷ []) ++ outputs_among side es nets
outputs_among side es nets = []

-- the outputs of a port, and of ports
abbrev pub outputs_of : NetPort → List ℕ
outputs_of p = outputs_among p.side (events p.ty) p.nets

abbrev pub all_outputs : List NetPort → List ℕ
all_outputs = flat_map outputs_of

-- the port with other nets in the place of its own
abbrev pub with_nets : (ℕ → ℕ) → NetPort → NetPort
with_nets f p = record p { nets = map f p.nets }
