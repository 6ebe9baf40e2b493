use Rattle.gos_model.proofs.TraceLemmas.{either_way, loop_runs, new_is_zero, asks_twice}
use Rattle.gos_model.proofs.laws.small_traces.Goals as goal

pub returns-clause-either : goal.returns-clause-either
returns-clause-either c = either_way

pub returns-clause-once : goal.returns-clause-once
returns-clause-once c = loop_runs

pub returns-clause-zero : goal.returns-clause-zero
returns-clause-zero c = new_is_zero

pub returns-clause-twice : goal.returns-clause-twice
returns-clause-twice c = asks_twice
