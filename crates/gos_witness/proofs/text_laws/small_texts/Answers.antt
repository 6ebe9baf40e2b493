use Rattle.gos_witness.proofs.TextLemmas.{small_labels, small_moves, small_ports, small_traces}
use Rattle.gos_witness.proofs.BreakLemmas.{small_trace_breaks}
use Rattle.gos_witness.proofs.MoveBreakLemmas.{small_moves_breaks}
use Rattle.gos_witness.proofs.text_laws.small_texts.Goals as goal

pub returns-clause-moves : goal.returns-clause-moves
returns-clause-moves c = small_moves

pub returns-clause-traces : goal.returns-clause-traces
returns-clause-traces c = small_traces

pub returns-clause-moves_breaks : goal.returns-clause-moves_breaks
returns-clause-moves_breaks c = small_moves_breaks

pub returns-clause-trace_breaks : goal.returns-clause-trace_breaks
returns-clause-trace_breaks c = small_trace_breaks

pub returns-clause-ports : goal.returns-clause-ports
returns-clause-ports c = small_ports

pub returns-clause-labels : goal.returns-clause-labels
returns-clause-labels c = small_labels
