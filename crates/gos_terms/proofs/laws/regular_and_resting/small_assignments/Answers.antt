use Rattle.gos_terms.proofs.regular_and_resting.SmallAssignmentLemmas.{one_is_open, seven_are_not_open, read_is_not_open}
use Rattle.gos_terms.proofs.laws.regular_and_resting.small_assignments.Goals as goal

pub returns-clause-one : goal.returns-clause-one
returns-clause-one c = one_is_open

pub returns-clause-seven : goal.returns-clause-seven
returns-clause-seven c = seven_are_not_open

pub returns-clause-read : goal.returns-clause-read
returns-clause-read c = read_is_not_open
