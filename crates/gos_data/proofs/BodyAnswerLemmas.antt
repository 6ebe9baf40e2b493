-- What a body answers with, by whether it is an expression.
use Rattle.std.proofs.Common.{◌≡◌, ℕ, zero, suc, ◌<◌, [], ◌∷◌, refl, arith}
use Rattle.gos_netlist.specs.Nets.{Gate}
use Rattle.gos_macro.specs.declared.gates.Wire.{Wire}
use Rattle.gos_macro.specs.Gates.{Incoming}
use Rattle.gos_macro.specs.Wires.{HoldsNets}
use Rattle.gos_macro.specs.Cells.{wide}
use Rattle.gos_data.specs.BodyAnswer.{number_cells, body_answer}

pub answer_nets : (v m n : ℕ) (w : Wire) → w.out_pulse.0 ≡ m → (0 < v → w.out_value.0 ≡ n) → HoldsNets (body_answer v m n) w
answer_nets zero m n w pulse value = pulse
answer_nets (suc v) m n w pulse value = (pulse, value (omega arith))

pub number_of_bits : (v : ℕ) (i : Incoming) → 0 < v → number_cells v i ≡ wide v (Gate (i.pulse 0) (i.value 0)) ∷ []
number_of_bits zero i some = absurd (omega (arith, some))
number_of_bits (suc v) i some = refl
