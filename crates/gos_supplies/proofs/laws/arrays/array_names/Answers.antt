use Rattle.gos_supplies.proofs.arrays.SuppliedLemmas.{array_name_is_open}
use Rattle.gos_supplies.proofs.arrays.NameLemmas.{array_name_is_name, array_name_is_realised}
use Rattle.gos_supplies.proofs.laws.arrays.array_names.Goals as goal

pub returns-clause-name : goal.returns-clause-name
returns-clause-name c = array_name_is_name

pub returns-clause-realised : goal.returns-clause-realised
returns-clause-realised c = array_name_is_realised

pub returns-clause-supplied : goal.returns-clause-supplied
returns-clause-supplied c = array_name_is_open
