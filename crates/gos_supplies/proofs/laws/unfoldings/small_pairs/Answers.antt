use Rattle.gos_supplies.proofs.unfoldings.SmallPairLemmas.{side_is_skip, side_is_number}
use Rattle.gos_supplies.proofs.laws.unfoldings.small_pairs.Goals as goal

pub returns-clause-skip : goal.returns-clause-skip
returns-clause-skip c = side_is_skip

pub returns-clause-number : goal.returns-clause-number
returns-clause-number c = side_is_number
