use Rattle.gos_gates.proofs.LawLemmas.{one_circuit, nothing_follows, read_has_no_fault, has_one_fault}
use Rattle.gos_gates.proofs.text_laws.one_answer.Goals as goal

pub returns-clause-circuit : goal.returns-clause-circuit
returns-clause-circuit c = one_circuit

pub returns-clause-read : goal.returns-clause-read
returns-clause-read c = read_has_no_fault

pub returns-clause-fault : goal.returns-clause-fault
returns-clause-fault c = has_one_fault

pub returns-clause-end : goal.returns-clause-end
returns-clause-end c = nothing_follows
