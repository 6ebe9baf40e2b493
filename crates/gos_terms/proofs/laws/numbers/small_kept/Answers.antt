use Rattle.gos_terms.proofs.numbers.SmallKeptLemmas.{twice_is_kept, none_is_not_kept}
use Rattle.gos_terms.proofs.laws.numbers.small_kept.Goals as goal

pub returns-clause-met : goal.returns-clause-met
returns-clause-met c = twice_is_kept c.small_splits.ensures.twice

pub returns-clause-missed : goal.returns-clause-missed
returns-clause-missed c = none_is_not_kept
