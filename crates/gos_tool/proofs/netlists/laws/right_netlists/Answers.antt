use Rattle.gos_tool.proofs.lemmas.netlists.CompleteLemmas.{tidy_is_not_rejected, gates_are_not_rejected}
use Rattle.gos_tool.proofs.netlists.laws.right_netlists.Goals as goal

pub returns-clause-tidy : goal.returns-clause-tidy
returns-clause-tidy c = tidy_is_not_rejected c.one_answer.ensures.netlist c.one_answer.ensures.read c.one_answer-2.ensures.accepted

pub returns-clause-gates : goal.returns-clause-gates
returns-clause-gates c = gates_are_not_rejected c.one_answer.ensures.netlist c.one_answer.ensures.read c.one_answer-2.ensures.accepted

pub returns-clause-lowered : goal.returns-clause-lowered
returns-clause-lowered c = λ files new net out report done. (done.circuit, done.says, done.small)
