use Rattle.gos_supplies.proofs.instances.FitLemmas.{serving_fits}
use Rattle.gos_supplies.proofs.instances.TogetherLemmas.{served_is_supplied}
use Rattle.gos_supplies.proofs.instances.OpenLemmas.{served_is_open}
use Rattle.gos_supplies.proofs.laws.instances.servings.Goals as goal

pub returns-clause-fits : goal.returns-clause-fits
returns-clause-fits c = serving_fits

pub returns-clause-supplied : goal.returns-clause-supplied
returns-clause-supplied c = served_is_supplied

pub returns-clause-open_imports : goal.returns-clause-open_imports
returns-clause-open_imports c = served_is_open
