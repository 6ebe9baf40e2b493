use Rattle.gos_terms.proofs.wired.SmallWiredLemmas.{use_is_wired, unjoined_is_not_wired, skip_fits, seq_does_not_fit}
use Rattle.gos_terms.proofs.laws.wired.small_wirings.Goals as goal

pub returns-clause-met : goal.returns-clause-met
returns-clause-met c = use_is_wired

pub returns-clause-missed : goal.returns-clause-missed
returns-clause-missed c = unjoined_is_not_wired

pub returns-clause-fits : goal.returns-clause-fits
returns-clause-fits c = skip_fits

pub returns-clause-clashes : goal.returns-clause-clashes
returns-clause-clashes c = seq_does_not_fit
