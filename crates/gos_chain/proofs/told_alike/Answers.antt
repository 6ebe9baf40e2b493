use Rattle.gos_chain.proofs.ToldLemmas.{forms_are_told_alike, refusals_are_told_alike}
use Rattle.gos_chain.proofs.told_alike.Goals as goal

pub returns-clause-forms : goal.returns-clause-forms
returns-clause-forms c = forms_are_told_alike

pub returns-clause-refusals : goal.returns-clause-refusals
returns-clause-refusals c = refusals_are_told_alike
