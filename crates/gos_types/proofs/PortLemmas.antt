-- Which types may be ports, and the handshakes of an array.
use Rattle.std.proofs.Common.{refl, inl, inr, ℕ}
use Rattle.gos_types.specs.Types.{Type', Com, Exp, Var, Pair, Fun, IsPort}
use Rattle.gos_types.specs.Ports.{SomePorts, OthersAreNoPorts, ArrayShakes}

pub some_ports : SomePorts
some_ports = (λ t ground. inl ground, λ i w. inr tt)

no_pair : (a b : Type') → IsPort (Pair a b) → ⊥
no_pair a b (inl h) = h
no_pair a b (inr h) = h

no_number : (a : Type') (w : ℕ) → IsPort (Fun a (Exp w)) → ⊥
no_number Com w (inl h) = h
no_number Com w (inr h) = h
no_number (Exp v) w (inl h) = h
no_number (Exp v) w (inr h) = h
no_number (Var v) w (inl h) = h
no_number (Var v) w (inr h) = h
no_number (Pair b c) w (inl h) = h
no_number (Pair b c) w (inr h) = h
no_number (Fun b c) w (inl h) = h
no_number (Fun b c) w (inr h) = h

no_command : (w : ℕ) → IsPort (Fun Com (Var w)) → ⊥
no_command w (inl h) = h
no_command w (inr h) = h

no_second : (i j w : ℕ) → IsPort (Fun (Exp i) (Fun (Exp j) (Var w))) → ⊥
no_second i j w (inl h) = h
no_second i j w (inr h) = h

pub others_are_no_ports : OthersAreNoPorts
others_are_no_ports = (no_pair, no_number, no_command, no_second)

pub array_shakes : ArrayShakes
array_shakes i w = refl
