use Rattle.gos_nodes.proofs.nodes.RestLemmas as lemmas
use Rattle.gos_nodes.proofs.laws.nodes.realisers_rest.Goals as goal

pub returns : goal.returns
returns c = lemmas.realisers_rest
