use Rattle.gos_nodes.proofs.products.BothLemmas.{both_is_regular}
use Rattle.gos_nodes.proofs.laws.products.both.Goals as goal

pub returns : goal.returns
returns c = both_is_regular
