use Rattle.gos_nodes.proofs.windows.OpenLemmas.{ground_node_is_open}
use Rattle.gos_nodes.proofs.windows.FormLemmas.{open_node_is_regular}
use Rattle.gos_nodes.proofs.laws.windows.open_nodes_are_regular.Goals as goal

pub returns-clause-regular : goal.returns-clause-regular
returns-clause-regular c = open_node_is_regular

pub returns-clause-of_ground : goal.returns-clause-of_ground
returns-clause-of_ground c = ground_node_is_open
