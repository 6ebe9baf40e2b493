use Rattle.std.proofs.Common.{◌≡◌, All, drop, length, map}
use Rattle.gos_sim.specs.inner.Program.{HaveBits, IsStepWithin}
use Rattle.gos_sim.specs.inner.Evaluation.{after, steps_from}
use Rattle.gos_sim.proofs.evaluation.evaluate_part.Given as goal

-- the steps that are left give the values that all of them do
abbrev pub invariant-loop-operand : goal.invariant-loop-operand
invariant-loop-operand g l =
    record {
      each : length l.values ≡ length l.initial.values;
      within : All (IsStepWithin (length l.values)) (steps_from (g.O.Operation.width l.operation) (g.O.Operation.gate l.operation) l.place (drop l.operand-index l.operands));
      sized : HaveBits g.W.Word.bits (steps_from (g.O.Operation.width l.operation) (g.O.Operation.gate l.operation) l.place (drop l.operand-index l.operands));
      rest : after (steps_from (g.O.Operation.width l.operation) (g.O.Operation.gate l.operation) l.place (drop l.operand-index l.operands)) (map g.W.Word.number l.values)
          ≡ after (steps_from (g.O.Operation.width l.operation) (g.O.Operation.gate l.operation) l.net l.operands) (map g.W.Word.number l.initial.values);
    }
