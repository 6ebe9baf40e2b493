use Rattle.gos_supplies.proofs.applications.ReadingLemmas.{reading_is_supplied, reading_is_realised}
use Rattle.gos_supplies.proofs.laws.applications.readings.Goals as goal

pub returns-clause-supplied : goal.returns-clause-supplied
returns-clause-supplied c = reading_is_supplied

pub returns-clause-realised : goal.returns-clause-realised
returns-clause-realised c = reading_is_realised
