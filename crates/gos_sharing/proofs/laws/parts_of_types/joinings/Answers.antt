use Rattle.gos_sharing.proofs.parts_of_types.JoinedLemmas.{joined_narrow_is}
use Rattle.gos_sharing.proofs.laws.parts_of_types.joinings.Goals as goal

pub returns : goal.returns
returns c = joined_narrow_is
