use Rattle.gos_sharing.proofs.function_types.MeansLemmas.{split_is_realised}
use Rattle.gos_sharing.proofs.laws.function_types.realising.Goals as goal

pub returns : goal.returns
returns c = split_is_realised
