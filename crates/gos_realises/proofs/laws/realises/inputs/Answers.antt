use Rattle.gos_realises.proofs.realises.InputLemmas.{matching_suffices}
use Rattle.gos_realises.proofs.realises.PortInputLemmas.{protocol_keeps_turns, ports_keep_turns, turns_keep_ports, realising_is_by_turns}
use Rattle.gos_realises.proofs.laws.realises.inputs.Goals as goal

pub returns-clause-turns : goal.returns-clause-turns
returns-clause-turns c = protocol_keeps_turns

pub returns-clause-ports : goal.returns-clause-ports
returns-clause-ports c = ports_keep_turns

pub returns-clause-labels : goal.returns-clause-labels
returns-clause-labels c = turns_keep_ports

pub returns-clause-matching : goal.returns-clause-matching
returns-clause-matching c = matching_suffices

pub returns-clause-by_turns : goal.returns-clause-by_turns
returns-clause-by_turns c = realising_is_by_turns
