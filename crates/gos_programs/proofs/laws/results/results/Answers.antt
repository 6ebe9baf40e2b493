use Rattle.gos_programs.proofs.results.ResultLemmas.{runs_keep_types, results_are_typed, answers_are_typed}
use Rattle.gos_programs.proofs.laws.results.results.Goals as goal

pub returns-clause-runs : goal.returns-clause-runs
returns-clause-runs c = runs_keep_types

pub returns-clause-values : goal.returns-clause-values
returns-clause-values c = results_are_typed

pub returns-clause-answers : goal.returns-clause-answers
returns-clause-answers c = answers_are_typed
