use Rattle.std.specs.List.{flat_map}
use Rattle.std.proofs.Common.{◌≡◌, ◌∙◌, ◌+◌, ℕ, All, arith, drop, length, map, subst, sym}
use Rattle.std.proofs.lemmas.Option.{slice_get-get_or}
use Rattle.gos_sim.specs.inner.Program.{IsSized, IsStepWithin}
use Rattle.gos_sim.specs.inner.Evaluation.{steps_of}
use Rattle.gos_sim.proofs.EvaluationLemmas.{later_steps, no_runs_left, run_after, run_steps}
use Rattle.gos_sim.proofs.evaluation.evaluate_runs.Goals as goal

pub evaluate_run-requires-clause-steps : goal.evaluate_run-requires-clause-steps
evaluate_run-requires-clause-steps g c =
    let is = slice_get-get_or c.args.runs.now c.loop-run.run-index _ c.loop-run-test.true in
    run_steps (IsStepWithin (length c.loop-run.values)) c.args.operands.now c.args.runs.now c.loop-run.run-index _ is c.loop-run.invariant.within

pub evaluate_run-requires-clause-sized : goal.evaluate_run-requires-clause-sized
evaluate_run-requires-clause-sized g c =
    let is = slice_get-get_or c.args.runs.now c.loop-run.run-index _ c.loop-run-test.true in
    run_steps (IsSized g.W.Word.bits) c.args.operands.now c.args.runs.now c.loop-run.run-index _ is c.loop-run.invariant.sized

pub loop-run-preserved : goal.loop-run-preserved
loop-run-preserved g c =
    let is = slice_get-get_or c.args.runs.now c.loop-run.run-index _ c.loop-run-test.true in
    let each : length c.evaluate_run.new.values ≡ length c.loop-run.values = omega arith in
    record {
      each = each ∙ c.loop-run.invariant.each;
      within = subst (λ (n : ℕ). All (IsStepWithin n) (flat_map (steps_of c.args.operands.now) (drop (c.loop-run.run-index + 1) c.args.runs.now))) (sym each)
          (later_steps (IsStepWithin (length c.loop-run.values)) c.args.operands.now c.args.runs.now c.loop-run.run-index _ is c.loop-run.invariant.within);
      sized = later_steps (IsSized g.W.Word.bits) c.args.operands.now c.args.runs.now c.loop-run.run-index _ is c.loop-run.invariant.sized;
      rest = run_after c.args.operands.now c.args.runs.now c.loop-run.run-index _ (map g.W.Word.number c.loop-run.values)
          (map g.W.Word.number c.evaluate_run.new.values) is c.evaluate_run.ensures
          ∙ c.loop-run.invariant.rest;
    }

pub returns : goal.returns
returns g c =
    sym (no_runs_left c.args.operands.now c.args.runs.now c.loop-run.run-index (map g.W.Word.number c.loop-run.values) (omega (arith, c.loop-run-test.false)))
    ∙ c.loop-run.invariant.rest
