use Rattle.gos_expand.proofs.SmallFastLemmas.{skip_is_fast, registers_are_not_fast, skip_has_depths, one_is_no_depth, none_is_no_depth}
use Rattle.gos_expand.proofs.laws.small_fast.Goals as goal

pub returns-clause-fast : goal.returns-clause-fast
returns-clause-fast c = skip_is_fast

pub returns-clause-slow : goal.returns-clause-slow
returns-clause-slow c = registers_are_not_fast

pub returns-clause-depths : goal.returns-clause-depths
returns-clause-depths c = skip_has_depths

pub returns-clause-one : goal.returns-clause-one
returns-clause-one c = one_is_no_depth

pub returns-clause-none : goal.returns-clause-none
returns-clause-none c = none_is_no_depth
