use Rattle.gos_supplies.proofs.arrays.WrittenLemmas.{writing_is_supplied, writing_is_realised}
use Rattle.gos_supplies.proofs.laws.arrays.writings.Goals as goal

pub returns-clause-supplied : goal.returns-clause-supplied
returns-clause-supplied c = writing_is_supplied

pub returns-clause-realised : goal.returns-clause-realised
returns-clause-realised c = writing_is_realised
