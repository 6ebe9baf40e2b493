use Rattle.gos_supplies.proofs.unjoined.SmallLemmas.{skip_is_beside, joined_is_not_beside, skip_is_home, other_is_not_home}
use Rattle.gos_supplies.proofs.laws.unjoined.small_beside.Goals as goal

pub returns-clause-met : goal.returns-clause-met
returns-clause-met c = skip_is_beside

pub returns-clause-missed : goal.returns-clause-missed
returns-clause-missed c = joined_is_not_beside

pub returns-clause-home : goal.returns-clause-home
returns-clause-home c = skip_is_home

pub returns-clause-other : goal.returns-clause-other
returns-clause-other c = other_is_not_home
