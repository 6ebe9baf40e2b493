-- The small circuits run, have their texts, and keep the rule for literals.
use Rattle.std.proofs.Common.{refl, arith}
use Rattle.std.specs.Fmt.{digits}
use Rattle.gos_gates.specs.SmallCircuits.{SmallRuns, SmallTexts, AreCircuits, GatesLookBack}

pub small_runs : SmallRuns
small_runs = (refl, refl)

pub small_texts : SmallTexts
unfolding digits
small_texts = (refl, refl)

pub are_circuits : AreCircuits
are_circuits = (
  record { few = omega arith; few_outputs = omega arith; latches = (omega arith, tt); outputs = (omega arith, tt); gates = tt },
  record { few = omega arith; few_outputs = omega arith; latches = (omega arith, (omega arith, tt)); outputs = (omega arith, tt); gates = (omega arith, omega arith, tt) },
)

pub gates_look_back : GatesLookBack
gates_look_back = ((λ are. omega (arith, are.gates.0)), (λ are. omega (arith, are.gates.1)))
