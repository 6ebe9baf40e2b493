use Rattle.gos_flow.proofs.CompleteLemmas.{right_is_not_rejected, empty_is_not_right}
use Rattle.gos_flow.proofs.laws.right_files.Goals as goal

pub returns-clause-rejected : goal.returns-clause-rejected
returns-clause-rejected c = right_is_not_rejected c.one_answer.ensures.netlist c.one_answer.ensures.read c.one_reading.ensures.one c.one_answer-2.ensures.accepted

pub returns-clause-empty : goal.returns-clause-empty
returns-clause-empty c = empty_is_not_right
