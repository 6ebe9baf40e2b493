use Rattle.gos_sharing.proofs.sharing.SmallSharingLemmas.{first_is_seen, second_is_not}
use Rattle.gos_sharing.proofs.laws.sharing.small_sharing.Goals as goal

pub returns-clause-first : goal.returns-clause-first
returns-clause-first c = first_is_seen

pub returns-clause-second : goal.returns-clause-second
returns-clause-second c = second_is_not
