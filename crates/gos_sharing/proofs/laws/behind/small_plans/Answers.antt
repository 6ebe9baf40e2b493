use Rattle.gos_sharing.proofs.behind.SmallLemmas.{shared_is, first_is_behind, first_is_regular, second_is_not, reversed_is_not}
use Rattle.gos_sharing.proofs.laws.behind.small_plans.Goals as goal

pub returns-clause-shared : goal.returns-clause-shared
returns-clause-shared c = shared_is

pub returns-clause-first : goal.returns-clause-first
returns-clause-first c = first_is_behind

pub returns-clause-regular : goal.returns-clause-regular
returns-clause-regular c = first_is_regular c.functions.ensures.same

pub returns-clause-second : goal.returns-clause-second
returns-clause-second c = second_is_not

pub returns-clause-reversed : goal.returns-clause-reversed
returns-clause-reversed c = reversed_is_not
