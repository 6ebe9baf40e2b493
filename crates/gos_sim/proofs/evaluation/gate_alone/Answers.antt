use Rattle.std.specs.List.{flat_map}
use Rattle.std.proofs.Common.{arith}
use Rattle.gos_sim.specs.inner.Evaluation.{steps_of}
use Rattle.gos_sim.proofs.SpotLemmas.{gate_alone, length_runs}
use Rattle.gos_sim.proofs.evaluation.gate_alone.Goals as goal

pub alone-one-requires-clause-step : goal.alone-one-requires-clause-step
alone-one-requires-clause-step c = let long = length_runs c.args.operands.now c.args.runs.now c.requires.fit in omega (arith, long, c.requires.step)

pub gate_of_run-requires-clause-fits : goal.gate_of_run-requires-clause-fits
gate_of_run-requires-clause-fits c = (c.alone-one.ensures c.args.operands.now c.requires.fit).0

pub gate_of_run-requires-clause-one : goal.gate_of_run-requires-clause-one
gate_of_run-requires-clause-one c = (c.alone-one.ensures c.args.operands.now c.requires.fit).1

pub returns : goal.returns
returns c =
    let own = (c.alone-one.ensures c.args.operands.now c.requires.fit).2 in
    gate_alone (flat_map (steps_of c.args.operands.now) c.args.runs.now) _ c.args.step _ own c.gate_of_run.ensures
