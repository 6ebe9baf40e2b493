use Rattle.gos_supplies.proofs.names.SmallArrayLemmas.{index_is_told}
use Rattle.gos_supplies.proofs.names.SmallWriteLemmas.{written_index_is_told}
use Rattle.gos_supplies.proofs.laws.names.small_arrays.Goals as goal

pub returns-clause-read : goal.returns-clause-read
returns-clause-read c = index_is_told

pub returns-clause-write : goal.returns-clause-write
returns-clause-write c = written_index_is_told
