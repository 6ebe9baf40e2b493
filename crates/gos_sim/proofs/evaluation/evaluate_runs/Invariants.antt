use Rattle.std.specs.List.{flat_map}
use Rattle.std.proofs.Common.{◌≡◌, All, drop, length, map}
use Rattle.gos_sim.specs.inner.Program.{HaveBits, IsStepWithin}
use Rattle.gos_sim.specs.inner.Evaluation.{after, steps_of}
use Rattle.gos_sim.proofs.evaluation.evaluate_runs.Given as goal

-- the runs that are left give the values that all of them do
abbrev pub invariant-loop-run : goal.invariant-loop-run
invariant-loop-run g l =
    record {
      each : length l.values ≡ length l.initial.values;
      within : All (IsStepWithin (length l.values)) (flat_map (steps_of l.operands) (drop l.run-index l.runs));
      sized : HaveBits g.W.Word.bits (flat_map (steps_of l.operands) (drop l.run-index l.runs));
      rest : after (flat_map (steps_of l.operands) (drop l.run-index l.runs)) (map g.W.Word.number l.values)
          ≡ after (flat_map (steps_of l.operands) l.runs) (map g.W.Word.number l.initial.values);
    }
