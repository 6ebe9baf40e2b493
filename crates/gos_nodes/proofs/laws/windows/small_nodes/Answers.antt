use Rattle.gos_nodes.proofs.windows.SmallNodeLemmas.{twice_is_node, twice_is_open, deaf_is_none, one_is_missing, shared_for_both}
use Rattle.gos_nodes.proofs.laws.windows.small_nodes.Goals as goal

pub returns-clause-node : goal.returns-clause-node
returns-clause-node c = twice_is_node

pub returns-clause-open_node : goal.returns-clause-open_node
returns-clause-open_node c = twice_is_open

pub returns-clause-deaf : goal.returns-clause-deaf
returns-clause-deaf c = deaf_is_none

pub returns-clause-missing : goal.returns-clause-missing
returns-clause-missing c = one_is_missing

pub returns-clause-both : goal.returns-clause-both
returns-clause-both c = shared_for_both
