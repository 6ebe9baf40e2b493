use Rattle.gos_sharing.proofs.cores.SmallLemmas.{skip_is_core, bare_is_core, reached_is_not_still, other_is_no_core}
use Rattle.gos_sharing.proofs.laws.cores.small_cores.Goals as goal

pub returns-clause-met : goal.returns-clause-met
returns-clause-met c = skip_is_core

pub returns-clause-reached : goal.returns-clause-reached
returns-clause-reached c = bare_is_core

pub returns-clause-missed : goal.returns-clause-missed
returns-clause-missed c = reached_is_not_still

pub returns-clause-other : goal.returns-clause-other
returns-clause-other c = other_is_no_core
