use Rattle.gos_terms.proofs.run_children.FormLemmas.{sequence_is_fork, choice_is_fork, loop_is_fork, operator_is_fork, complement_is_fork}
use Rattle.gos_terms.proofs.laws.run_children.forms_are_forks.Goals as goal

pub returns-clause-sequence : goal.returns-clause-sequence
returns-clause-sequence c = sequence_is_fork

pub returns-clause-choice : goal.returns-clause-choice
returns-clause-choice c = choice_is_fork

pub returns-clause-repeat : goal.returns-clause-repeat
returns-clause-repeat c = loop_is_fork

pub returns-clause-operator : goal.returns-clause-operator
returns-clause-operator c = operator_is_fork

pub returns-clause-complement : goal.returns-clause-complement
returns-clause-complement c = complement_is_fork
