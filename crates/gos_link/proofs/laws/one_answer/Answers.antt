use Rattle.gos_link.proofs.AnswerLemmas.{linked_is_one, has_one_fault, linked_has_no_fault}
use Rattle.gos_link.proofs.laws.one_answer.Goals as goal

pub returns-clause-linked : goal.returns-clause-linked
returns-clause-linked c = linked_is_one c.one_joining.ensures

pub returns-clause-fault : goal.returns-clause-fault
returns-clause-fault c = has_one_fault c.one_joining.ensures

pub returns-clause-either : goal.returns-clause-either
returns-clause-either c = linked_has_no_fault c.one_joining.ensures
