use Rattle.gos_model.proofs.SequenceLemmas.{seq_runs, seq_waits, seq_weight, waiting_is_stalled, emitting_is_not_stalled}
use Rattle.gos_model.proofs.laws.sequences.Goals as goal

pub returns-clause-runs : goal.returns-clause-runs
returns-clause-runs c = seq_runs

pub returns-clause-waits : goal.returns-clause-waits
returns-clause-waits c = seq_waits

pub returns-clause-weight : goal.returns-clause-weight
returns-clause-weight c = seq_weight

pub returns-clause-waiting : goal.returns-clause-waiting
returns-clause-waiting c = waiting_is_stalled

pub returns-clause-emitting : goal.returns-clause-emitting
returns-clause-emitting c = emitting_is_not_stalled
