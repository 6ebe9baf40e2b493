use Rattle.gos_verilog.proofs.MeaningLemmas.{texts_mean}
use Rattle.gos_verilog.proofs.MeantRunLemmas.{runs_are_meant}
use Rattle.gos_verilog.proofs.SmallMeaningLemmas.{caller_is_meant, caller_runs, caller_waits, swapped_outputs, swapped_inputs}
use Rattle.gos_verilog.proofs.laws.meaning.Goals as goal

pub returns-clause-texts : goal.returns-clause-texts
returns-clause-texts c = texts_mean

pub returns-clause-runs : goal.returns-clause-runs
returns-clause-runs c = runs_are_meant

pub returns-clause-caller : goal.returns-clause-caller
returns-clause-caller c = caller_is_meant

pub returns-clause-caller_runs : goal.returns-clause-caller_runs
returns-clause-caller_runs c = caller_runs

pub returns-clause-caller_waits : goal.returns-clause-caller_waits
returns-clause-caller_waits c = caller_waits

pub returns-clause-outputs : goal.returns-clause-outputs
returns-clause-outputs c = swapped_outputs

pub returns-clause-inputs : goal.returns-clause-inputs
returns-clause-inputs c = swapped_inputs
