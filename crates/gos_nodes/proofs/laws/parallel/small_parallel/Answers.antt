use Rattle.gos_nodes.proofs.parallel.SmallParallelLemmas.{call_and_skip_is_parallel, call_and_skip_realises, skip_is_not_left, skip_is_not_both, other_part_is_not}
use Rattle.gos_nodes.proofs.laws.parallel.small_parallel.Goals as goal

pub returns-clause-parallel : goal.returns-clause-parallel
returns-clause-parallel c = call_and_skip_is_parallel

pub returns-clause-realises : goal.returns-clause-realises
returns-clause-realises c = call_and_skip_realises

pub returns-clause-left : goal.returns-clause-left
returns-clause-left c = skip_is_not_left

pub returns-clause-both : goal.returns-clause-both
returns-clause-both c = skip_is_not_both

pub returns-clause-other : goal.returns-clause-other
returns-clause-other c = other_part_is_not
