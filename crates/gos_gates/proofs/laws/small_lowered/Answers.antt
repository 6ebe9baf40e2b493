use Rattle.gos_gates.proofs.SmallLoweredLemmas.{latch_is_lowered, turned_is_not_lowered, lacking_is_not_lowered, latch_is_small}
use Rattle.gos_gates.proofs.laws.small_lowered.Goals as goal

pub returns-clause-latch : goal.returns-clause-latch
returns-clause-latch c = latch_is_lowered

pub returns-clause-turned : goal.returns-clause-turned
returns-clause-turned c = turned_is_not_lowered

pub returns-clause-lacking : goal.returns-clause-lacking
returns-clause-lacking c = lacking_is_not_lowered

pub returns-clause-small : goal.returns-clause-small
returns-clause-small c = latch_is_small
