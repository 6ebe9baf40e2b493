-- How clauses see the wires of a part: as the nets that come in and go out.
--
-- Read first: Gates.
use Rattle.std.specs.Prelude.{◌≡◌, ℕ, List, [], ◌∷◌, Option, None, Some, slice_get}
use Rattle.gos_macro.specs.declared.gates.Wire.{Wire}
use Rattle.gos_macro.specs.Gates.{Incoming, Outgoing, Bare, Bearing}

-- the numbers of the nets that come in at a wire
abbrev pub nets_in : Wire → ℕ × ℕ
nets_in w = (w.in_pulse.0, w.in_value.0)

abbrev pub pulse_if : Option Wire → ℕ
pulse_if None = 0
pulse_if (Some w) = w.in_pulse.0

abbrev pub value_if : Option Wire → ℕ
value_if None = 0
value_if (Some w) = w.in_value.0

-- the nets that come in, by handshake
abbrev pub incoming_of : List Wire → Incoming
incoming_of wires = record { pulse = λ h. pulse_if (slice_get wires h); value = λ h. value_if (slice_get wires h) }

-- a wire holds these nets as those that go out
abbrev pub HoldsNets : Outgoing → Wire → Type 0
HoldsNets (Bare p) w = w.out_pulse.0 ≡ p
HoldsNets (Bearing p a) w = (w.out_pulse.0 ≡ p) × (w.out_value.0 ≡ a)

-- wires do, one for each handshake
abbrev pub HoldNets : List Outgoing → List Wire → Type 0
HoldNets [] [] = Unit {0}
HoldNets [] (w ∷ ws) = ⊥
HoldNets (o ∷ os) [] = ⊥
HoldNets (o ∷ os) (w ∷ ws) = HoldsNets o w × HoldNets os ws
