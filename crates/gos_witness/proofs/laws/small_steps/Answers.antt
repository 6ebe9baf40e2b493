use Rattle.gos_witness.proofs.SmallStepLemmas as lemmas
use Rattle.gos_witness.proofs.laws.small_steps.Goals as goal

pub returns-clause-read : goal.returns-clause-read
returns-clause-read c = lemmas.first_is_read

pub returns-clause-written : goal.returns-clause-written
returns-clause-written c = lemmas.first_is_written

pub returns-clause-least : goal.returns-clause-least
returns-clause-least c = lemmas.least_is_taken

pub returns-clause-index_reached : goal.returns-clause-index_reached
returns-clause-index_reached c = lemmas.index_is_reached

pub returns-clause-index_read : goal.returns-clause-index_read
returns-clause-index_read c = lemmas.index_is_read

pub returns-clause-index_written : goal.returns-clause-index_written
returns-clause-index_written c = lemmas.index_is_written
