use Rattle.gos_model.proofs.StoreLemmas.{reads_what_is_written, other_index_stays, outside_changes_nothing, other_location_stays, lengths_stay, three, variable_has_one, first_counts}
use Rattle.gos_model.proofs.laws.stores.Goals as goal

pub returns-clause-written : goal.returns-clause-written
returns-clause-written c = reads_what_is_written

pub returns-clause-index : goal.returns-clause-index
returns-clause-index c = other_index_stays

pub returns-clause-outside : goal.returns-clause-outside
returns-clause-outside c = outside_changes_nothing

pub returns-clause-location : goal.returns-clause-location
returns-clause-location c = other_location_stays

pub returns-clause-lengths : goal.returns-clause-lengths
returns-clause-lengths c = lengths_stay

pub returns-clause-three : goal.returns-clause-three
returns-clause-three c = three

pub returns-clause-one : goal.returns-clause-one
returns-clause-one c = variable_has_one

pub returns-clause-first : goal.returns-clause-first
returns-clause-first c = first_counts
