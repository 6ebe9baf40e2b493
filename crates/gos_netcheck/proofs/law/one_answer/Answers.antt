use Rattle.gos_netcheck.proofs.FaultLemmas.{no_fault, one_fault}
use Rattle.gos_netcheck.proofs.law.one_answer.Goals as goal

pub returns-clause-accepted : goal.returns-clause-accepted
returns-clause-accepted c = no_fault

pub returns-clause-refused : goal.returns-clause-refused
returns-clause-refused c = one_fault
