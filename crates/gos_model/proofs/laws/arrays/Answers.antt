use Rattle.gos_model.proofs.ArrayLemmas.{array_is_zeros, write_is_at_index, outside_has_no_step, read_waits, write_waits}
use Rattle.gos_model.proofs.laws.arrays.Goals as goal

pub returns-clause-zeros : goal.returns-clause-zeros
returns-clause-zeros c = array_is_zeros

pub returns-clause-write : goal.returns-clause-write
returns-clause-write c = write_is_at_index

pub returns-clause-outside : goal.returns-clause-outside
returns-clause-outside c = outside_has_no_step

pub returns-clause-reads : goal.returns-clause-reads
returns-clause-reads c = read_waits

pub returns-clause-writes : goal.returns-clause-writes
returns-clause-writes c = write_waits
