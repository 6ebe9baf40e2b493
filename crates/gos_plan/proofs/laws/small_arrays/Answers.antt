use Rattle.gos_plan.proofs.SmallArrayLemmas.{entry_clears, access_asks, read_is_at_index, write_is_at_index, one_at_a_time, serves_its_type, lengths_are_kept, small_numbers_fit}
use Rattle.gos_plan.proofs.laws.small_arrays.Goals as goal

pub returns-clause-entry : goal.returns-clause-entry
returns-clause-entry c = entry_clears

pub returns-clause-asks : goal.returns-clause-asks
returns-clause-asks c = access_asks

pub returns-clause-read : goal.returns-clause-read
returns-clause-read c = read_is_at_index

pub returns-clause-write : goal.returns-clause-write
returns-clause-write c = write_is_at_index

pub returns-clause-one : goal.returns-clause-one
returns-clause-one c = one_at_a_time

pub returns-clause-serves : goal.returns-clause-serves
returns-clause-serves c = serves_its_type

pub returns-clause-lengths : goal.returns-clause-lengths
returns-clause-lengths c = lengths_are_kept

pub returns-clause-numbers : goal.returns-clause-numbers
returns-clause-numbers c = small_numbers_fit
