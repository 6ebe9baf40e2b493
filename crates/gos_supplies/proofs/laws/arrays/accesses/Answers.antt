use Rattle.gos_supplies.proofs.arrays.AccessLemmas.{access_is_regular, access_is_realised}
use Rattle.gos_supplies.proofs.laws.arrays.accesses.Goals as goal

pub returns-clause-regular : goal.returns-clause-regular
returns-clause-regular c = access_is_regular

pub returns-clause-realised : goal.returns-clause-realised
returns-clause-realised c = access_is_realised
