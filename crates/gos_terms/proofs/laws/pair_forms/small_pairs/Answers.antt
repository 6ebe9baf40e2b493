use Rattle.gos_terms.proofs.pair_forms.SmallPairLemmas.{twice_is_kept, twice_is_steady, unsplit_is_not_kept}
use Rattle.gos_terms.proofs.laws.pair_forms.small_pairs.Goals as goal

pub returns-clause-kept : goal.returns-clause-kept
returns-clause-kept c = twice_is_kept c.small_splits.ensures.twice

pub returns-clause-steady : goal.returns-clause-steady
returns-clause-steady c = twice_is_steady c.small_splits.ensures.twice c.leaves_are_regular.ensures.used c.steady.ensures

pub returns-clause-unsplit : goal.returns-clause-unsplit
returns-clause-unsplit c = unsplit_is_not_kept
