use Rattle.gos_terms.proofs.wired.FairLemmas.{typed_ties_fit, checked_fits, checked_is_wired}
use Rattle.gos_terms.proofs.laws.wired.checked_modules.Goals as goal

pub returns-clause-fit : goal.returns-clause-fit
returns-clause-fit c = typed_ties_fit

pub returns-clause-checked : goal.returns-clause-checked
returns-clause-checked c = checked_fits c.typed_terms.ensures.checked

pub returns-clause-wired : goal.returns-clause-wired
returns-clause-wired c = checked_is_wired c.typed_terms.ensures.checked
