use Rattle.gos_model.proofs.AccessLemmas.{accesses_run, index_waits, array_answers}
use Rattle.gos_model.proofs.laws.accesses.Goals as goal

pub returns-clause-run : goal.returns-clause-run
returns-clause-run c = accesses_run

pub returns-clause-index : goal.returns-clause-index
returns-clause-index c = index_waits

pub returns-clause-answers : goal.returns-clause-answers
returns-clause-answers c = array_answers
