use Rattle.gos_terms.proofs.regular_and_resting.SmallForkLemmas.{both_are_run, second_is_not_run}
use Rattle.gos_terms.proofs.laws.regular_and_resting.small_forks.Goals as goal

pub returns-clause-both : goal.returns-clause-both
returns-clause-both c = both_are_run

pub returns-clause-second : goal.returns-clause-second
returns-clause-second c = second_is_not_run
