use Rattle.gos_netlist.proofs.LawLemmas.{one_netlist, read_has_no_fault, has_one_fault}
use Rattle.gos_netlist.proofs.laws.one_answer.Goals as goal

pub returns-clause-netlist : goal.returns-clause-netlist
returns-clause-netlist c = one_netlist

pub returns-clause-read : goal.returns-clause-read
returns-clause-read c = read_has_no_fault

pub returns-clause-fault : goal.returns-clause-fault
returns-clause-fault c = has_one_fault
