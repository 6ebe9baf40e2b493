use Rattle.gos_terms.proofs.regular_and_resting.AssignmentLemmas.{assignment_is_steady}
use Rattle.gos_terms.proofs.laws.regular_and_resting.assignments.Goals as goal

pub returns : goal.returns
returns c = assignment_is_steady
