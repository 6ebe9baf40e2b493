use Rattle.gos_sharing.proofs.function_types.CarriedLemmas.{joined_split_is}
use Rattle.gos_sharing.proofs.laws.function_types.joinings.Goals as goal

pub returns : goal.returns
returns c = joined_split_is
