use Rattle.gos_nodes.proofs.products.RealisedLemmas.{sides_realise_both}
use Rattle.gos_nodes.proofs.laws.products.pairs.Goals as goal

pub returns : goal.returns
returns c = sides_realise_both
