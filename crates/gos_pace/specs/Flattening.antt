-- The pulses of a run, as lists of labels.
--
-- Read first: Labels, Settling. Within a cycle the outputs come before the inputs, and otherwise the order is free.
use Rattle.std.specs.Prelude.{◌≡◌, ℕ, suc, not, List, [], ◌∷◌, ◌++◌, filter, nat_eq, if◌then◌else◌, Some, None}
use Rattle.gos_model.specs.Terms.{Name}
use Rattle.gos_model.specs.Labels.{Port, Given, Taken, Label, is_output}
use Rattle.gos_types.specs.Events.{Event, Is, events}
use Rattle.gos_netlist.specs.Nets.{Side, Give, Take, NetPort, Netlist}
use Rattle.gos_netlist.specs.Settling.{Numbers, at}

-- the port in a label: the given one has no name
abbrev pub port_of : Side → Name → Port
port_of Give x = Given
port_of Take x = Taken x

-- a label where its net is 1
abbrev pub if_pulse : ℕ → Label → List Label
if_pulse on l = if nat_eq on 1 then l ∷ [] else []

-- The pulses of a port's events from number n on. An event without a number has one net, another one a second for its number.
abbrev pub pulses_from : Port → ℕ → List Event → List ℕ → Numbers → List Label
pulses_from p n (Is way None ∷ es) (a ∷ nets) v =
    if_pulse (at v a) (record { port = p; event = n; value = 0 }) ++ pulses_from p (suc n) es nets v
pulses_from p n (Is way (Some b) ∷ es) (a ∷ x ∷ nets) v =
    if_pulse (at v a) (record { port = p; event = n; value = at v x }) ++ pulses_from p (suc n) es nets v
pulses_from p n es nets v = []

-- the pulses of a port in a cycle with these values
abbrev pub port_pulses : Numbers → NetPort → List Label
port_pulses v p = pulses_from (port_of p.side p.name) 0 (events p.ty) p.nets v

-- all pulses of a cycle, in the order of the ports
abbrev pub pulses : List NetPort → Numbers → List Label
pulses [] v = []
pulses (p ∷ ps) v = port_pulses v p ++ pulses ps v

-- the output pulses of a cycle
abbrev pub outputs : Netlist → Numbers → List Label
outputs net v = filter is_output (pulses net.ports v)

-- the input pulses of a cycle
abbrev pub inputs : Netlist → Numbers → List Label
inputs net v = filter (λ l. not (is_output l)) (pulses net.ports v)

-- ys has the members of xs, in any order
abbrev pub AnyOrder : List Label → List Label → Type 0
AnyOrder [] ys = ys ≡ []
AnyOrder (x ∷ xs) ys = (before : List Label) × (after : List Label) × (ys ≡ before ++ x ∷ after) × AnyOrder xs (before ++ after)

-- A flattening of a run has a part for each cycle: its outputs in any order, and then its inputs in any order.
abbrev pub Flattening : Netlist → List Numbers → List (List Label) → Type 0
Flattening net [] [] = Unit {0}
Flattening net [] (part ∷ parts) = ⊥
Flattening net (v ∷ vs) [] = ⊥
Flattening net (v ∷ vs) (part ∷ parts) =
    ((out : List Label) × (inp : List Label) × AnyOrder (outputs net v) out × AnyOrder (inputs net v) inp × (part ≡ out ++ inp))
    × Flattening net vs parts

-- the parts as one list
abbrev pub flat : List (List Label) → List Label
flat [] = []
flat (part ∷ parts) = part ++ flat parts
