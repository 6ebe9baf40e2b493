use Rattle.gos_nodes.proofs.resting.RestfulLemmas.{restful_rests}
use Rattle.gos_nodes.proofs.laws.resting.resting.Goals as goal

pub returns : goal.returns
returns c = restful_rests
