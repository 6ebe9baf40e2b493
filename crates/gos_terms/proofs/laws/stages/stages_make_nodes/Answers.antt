use Rattle.gos_terms.proofs.stages.NodeLemmas.{stages_make_node}
use Rattle.gos_terms.proofs.laws.stages.stages_make_nodes.Goals as goal

pub returns : goal.returns
returns c = stages_make_node
