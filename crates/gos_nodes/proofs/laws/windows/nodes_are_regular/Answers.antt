use Rattle.gos_nodes.proofs.windows.FormLemmas.{node_keeps_turns, node_is_regular}
use Rattle.gos_nodes.proofs.laws.windows.nodes_are_regular.Goals as goal

pub returns-clause-turns : goal.returns-clause-turns
returns-clause-turns c = node_keeps_turns

pub returns-clause-regular : goal.returns-clause-regular
returns-clause-regular c = node_is_regular
