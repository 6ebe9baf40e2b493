use Rattle.gos_nodes.proofs.nodes.SmallLemmas.{twice_is_node, one_stage_is_not, two_skips_are_realised, twice_is_realised}
use Rattle.gos_nodes.proofs.laws.nodes.small_nodes.Goals as goal

pub returns-clause-node : goal.returns-clause-node
returns-clause-node c = twice_is_node

pub returns-clause-one : goal.returns-clause-one
returns-clause-one c = one_stage_is_not

pub returns-clause-stages : goal.returns-clause-stages
returns-clause-stages c = two_skips_are_realised

pub returns-clause-whole : goal.returns-clause-whole
returns-clause-whole c = twice_is_realised
