-- The nets of a wire among others.
use Rattle.std.proofs.Common.{◌≡◌, ℕ, List, Some, refl}
use Rattle.std.specs.Prelude.{slice_get}
use Rattle.gos_macro.specs.declared.gates.Wire.{Wire}
use Rattle.gos_macro.specs.Wires.{pulse_if, value_if}

pub pulse_there : (wires : List Wire) (n : ℕ) (w : Wire) → slice_get wires n ≡ Some w → w.in_pulse.0 ≡ pulse_if (slice_get wires n)
pulse_there wires n w there = rw there refl

pub value_there : (wires : List Wire) (n : ℕ) (w : Wire) → slice_get wires n ≡ Some w → w.in_value.0 ≡ value_if (slice_get wires n)
value_there wires n w there = rw there refl
