use Rattle.gos_flow.proofs.SmallLemmas.{echo_is_written, longer_is_not_written, other_count_is_not_told, causes_are_apart}
use Rattle.gos_flow.proofs.laws.small_runs.Goals as goal

pub returns-clause-echo : goal.returns-clause-echo
returns-clause-echo c = echo_is_written c.reads_back.ensures

pub returns-clause-longer : goal.returns-clause-longer
returns-clause-longer c = longer_is_not_written c.reads_back.ensures c.one_answer.ensures.netlist c.one_text.ensures.accepted

pub returns-clause-count : goal.returns-clause-count
returns-clause-count c = other_count_is_not_told c.reads_back.ensures c.one_answer.ensures.netlist c.one_text.ensures.accepted

pub returns-clause-causes : goal.returns-clause-causes
returns-clause-causes c = causes_are_apart
