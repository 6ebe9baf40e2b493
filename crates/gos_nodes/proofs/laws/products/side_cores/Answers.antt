use Rattle.gos_nodes.proofs.products.CoreLemmas.{sides_are_cores}
use Rattle.gos_nodes.proofs.laws.products.side_cores.Goals as goal

pub returns : goal.returns
returns c = sides_are_cores
