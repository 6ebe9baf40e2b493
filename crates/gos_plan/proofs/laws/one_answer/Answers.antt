use Rattle.gos_plan.proofs.ObjectLemmas.{one_plan, read_has_no_fault, has_one_fault}
use Rattle.gos_plan.proofs.laws.one_answer.Goals as goal

pub returns-clause-plan : goal.returns-clause-plan
returns-clause-plan c = one_plan

pub returns-clause-read : goal.returns-clause-read
returns-clause-read c = read_has_no_fault

pub returns-clause-fault : goal.returns-clause-fault
returns-clause-fault c = has_one_fault
