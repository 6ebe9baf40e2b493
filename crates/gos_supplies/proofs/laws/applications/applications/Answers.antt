use Rattle.gos_supplies.proofs.applications.TogetherLemmas.{applied_is_supplied}
use Rattle.gos_supplies.proofs.applications.ApplicationLemmas.{application_is_realised}
use Rattle.gos_supplies.proofs.laws.applications.applications.Goals as goal

pub returns-clause-supplied : goal.returns-clause-supplied
returns-clause-supplied c = applied_is_supplied

pub returns-clause-realised : goal.returns-clause-realised
returns-clause-realised c = application_is_realised
