use Rattle.std.proofs.Common.{◌≡◌, length}
use Rattle.gos_macro_tests.proofs.trial.wires_of.Given as goal

abbrev pub invariant-loop-handshake : goal.invariant-loop-handshake
invariant-loop-handshake l = length l.wires.items ≡ l.handshake
