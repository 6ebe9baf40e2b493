use Rattle.gos_supplies.proofs.names.ArrayReadLemmas.{read_is_realised, read_is_realised_by_type}
use Rattle.gos_supplies.proofs.names.ArrayWriteLemmas.{write_is_realised, write_is_realised_by_type}
use Rattle.gos_supplies.proofs.laws.names.arrays.Goals as goal

pub returns-clause-read : goal.returns-clause-read
returns-clause-read c = read_is_realised

pub returns-clause-read_by_type : goal.returns-clause-read_by_type
returns-clause-read_by_type c = read_is_realised_by_type

pub returns-clause-write : goal.returns-clause-write
returns-clause-write c = write_is_realised

pub returns-clause-write_by_type : goal.returns-clause-write_by_type
returns-clause-write_by_type c = write_is_realised_by_type
