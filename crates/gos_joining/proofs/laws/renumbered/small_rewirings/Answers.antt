use Rattle.gos_joining.proofs.renumbered.SmallRewiringLemmas.{swap_is_rewired, argument_gives_not}
use Rattle.gos_joining.proofs.laws.renumbered.small_rewirings.Goals as goal

pub returns-clause-swap : goal.returns-clause-swap
returns-clause-swap c = swap_is_rewired

pub returns-clause-giver : goal.returns-clause-giver
returns-clause-giver c = argument_gives_not
