use Rattle.gos_sharing.proofs.function_types.FollowLemmas.{split_is_regular, split_is_done}
use Rattle.gos_sharing.proofs.laws.function_types.splits.Goals as goal

pub returns-clause-regular : goal.returns-clause-regular
returns-clause-regular c = split_is_regular

pub returns-clause-done : goal.returns-clause-done
returns-clause-done c = split_is_done
