-- The nets of what goes out of parts, as the program keeps them.
--
-- Read first: Tokens, Laid; Contacts of gos_plan. Between the functions of this crate.
use Rattle.std.specs.Prelude.{ℕ, suc, ◌+◌, if◌then◌else◌, nat_eq, List, [], ◌∷◌, Option, None, Some, slice_get}
use Rattle.gos_plan.specs.declared.contacts.Contact as held
use Rattle.gos_plan.specs.Kinds.{Part, Contact, part_contacts}
use Rattle.gos_plan.specs.Contacts.{contact_held}
use Rattle.gos_macro.specs.declared.gates.Wire.{Wire}
use Rattle.gos_macro.specs.Gates.{Outgoing, bits_out}
use Rattle.gos_expand.specs.Blocks.{Nets}
use Rattle.gos_expand.specs.Gates.{Making, outs_of, part_size}
use Rattle.gos_expand.specs.Laid.{nets_out}

-- the nets of what goes out by a wire at a handshake
abbrev pub nets_of_wire : held.Contact → Wire → Nets
nets_of_wire c w = record { pulse = w.out_pulse.0; number = if nat_eq (bits_out c.role (contact_held c)) 0 then 0 else w.out_value.0 }

-- by wires, one for each handshake
abbrev pub nets_of_wires : List held.Contact → List Wire → List Nets
nets_of_wires [] ws = []
nets_of_wires (c ∷ cs) [] = []
nets_of_wires (c ∷ cs) (w ∷ ws) = nets_of_wire c w ∷ nets_of_wires cs ws

-- the nets of what goes out of gates, one for each of these handshakes
abbrev pub nets_of_outs : List Contact → List Outgoing → List Nets
nets_of_outs [] os = []
nets_of_outs (c ∷ cs) [] = nets_out None ∷ nets_of_outs cs []
nets_of_outs (c ∷ cs) (o ∷ os) = nets_out (Some o) ∷ nets_of_outs cs os

-- the nets of what goes out of a part whose first cell is net n, by handshake
abbrev pub part_departures : Making → Part → ℕ → List Nets
part_departures m k n = nets_of_outs (part_contacts k) (outs_of m k n)

-- those of parts, the first of which is part i and begins at net n
abbrev pub departures_from : (ℕ → Making) → ℕ → ℕ → List Part → List (List Nets)
departures_from making i n [] = []
departures_from making i n (k ∷ ks) = part_departures (making i) k n ∷ departures_from making (suc i) (n + part_size (making i) k) ks

-- the nets at a handshake of a part
abbrev pub nets_in : Option (List Nets) → ℕ → Option Nets
nets_in None h = None
nets_in (Some nets) h = slice_get nets h
