use Rattle.gos_terms.proofs.leaves.SmallLeafLemmas.{loose_is_wired, other_is_not_wired, loose_realises_skip}
use Rattle.gos_terms.proofs.laws.leaves.small_leaves.Goals as goal

pub returns-clause-met : goal.returns-clause-met
returns-clause-met c = loose_is_wired

pub returns-clause-missed : goal.returns-clause-missed
returns-clause-missed c = other_is_not_wired

pub returns-clause-realised : goal.returns-clause-realised
returns-clause-realised c = loose_realises_skip
