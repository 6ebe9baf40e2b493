use Rattle.gos_witness.specs.MovesText.{IsMovesText}
use Rattle.gos_witness.specs.TraceText.{IsTraceText}
use Rattle.gos_witness.proofs.TextLemmas.{has_no_fault, has_one_fault, one_list, one_trace}
use Rattle.gos_witness.proofs.text_laws.one_answer.Goals as goal

pub returns-clause-moves : goal.returns-clause-moves
returns-clause-moves c = one_list

pub returns-clause-labels : goal.returns-clause-labels
returns-clause-labels c = one_trace

pub returns-clause-moves_read : goal.returns-clause-moves_read
returns-clause-moves_read c = has_no_fault IsMovesText

pub returns-clause-moves_fault : goal.returns-clause-moves_fault
returns-clause-moves_fault c = has_one_fault IsMovesText

pub returns-clause-labels_read : goal.returns-clause-labels_read
returns-clause-labels_read c = λ ports. has_no_fault (IsTraceText ports)

pub returns-clause-labels_fault : goal.returns-clause-labels_fault
returns-clause-labels_fault c = λ ports. has_one_fault (IsTraceText ports)
