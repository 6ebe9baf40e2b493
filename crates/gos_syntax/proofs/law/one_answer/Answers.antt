use Rattle.gos_syntax.proofs.OneAnswerLemmas.{one_fault, faults_exclude_modules}
use Rattle.gos_syntax.proofs.OneTreeLemmas.{has_one_tree}
use Rattle.gos_syntax.proofs.law.one_answer.Goals as goal

pub returns-clause-refusal : goal.returns-clause-refusal
returns-clause-refusal c = faults_exclude_modules

pub returns-clause-tree : goal.returns-clause-tree
returns-clause-tree c = has_one_tree

pub returns-clause-fault : goal.returns-clause-fault
returns-clause-fault c = one_fault
