use Rattle.gos_sharing.proofs.pair_types.CoredLemmas.{sides_have_cores}
use Rattle.gos_sharing.proofs.laws.pair_types.sides.Goals as goal

pub returns : goal.returns
returns c = sides_have_cores
