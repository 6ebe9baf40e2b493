use Rattle.gos_terms.proofs.run_children.SmallForkLemmas.{both_are_branches, one_is_not_all, none_is_left, zero_is_left}
use Rattle.gos_terms.proofs.laws.run_children.small_forks.Goals as goal

pub returns-clause-both : goal.returns-clause-both
returns-clause-both c = both_are_branches

pub returns-clause-one : goal.returns-clause-one
returns-clause-one c = one_is_not_all

pub returns-clause-none : goal.returns-clause-none
returns-clause-none c = none_is_left

pub returns-clause-left : goal.returns-clause-left
returns-clause-left c = zero_is_left
