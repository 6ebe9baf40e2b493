use Rattle.gos_terms.proofs.numbers.UnsplitLemmas.{checked_is_unsplit}
use Rattle.gos_terms.proofs.laws.numbers.parallels_are_unsplit.Goals as goal

pub returns-clause-checked : goal.returns-clause-checked
returns-clause-checked c = checked_is_unsplit c.typed_terms.ensures.checked

pub returns-clause-met : goal.returns-clause-met
returns-clause-met c = (tt, tt, tt)

pub returns-clause-missed : goal.returns-clause-missed
returns-clause-missed c h = cc h.0

pub returns-clause-applied_met : goal.returns-clause-applied_met
returns-clause-applied_met c = (tt, tt, tt)

pub returns-clause-applied_missed : goal.returns-clause-applied_missed
returns-clause-applied_missed c h = cc h.0
