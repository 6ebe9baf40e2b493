use Rattle.gos_terms.proofs.wired.NodeFitLemmas.{wired_node_fits, wired_is_placed, fitting_is_plain}
use Rattle.gos_terms.proofs.laws.wired.wired_nodes.Goals as goal

pub returns-clause-fit : goal.returns-clause-fit
returns-clause-fit c = wired_node_fits

pub returns-clause-placed : goal.returns-clause-placed
returns-clause-placed c = wired_is_placed

pub returns-clause-plain : goal.returns-clause-plain
returns-clause-plain c = fitting_is_plain
