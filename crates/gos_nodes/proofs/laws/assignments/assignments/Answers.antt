use Rattle.gos_nodes.proofs.assignments.AssignmentLemmas as assignment
use Rattle.gos_nodes.proofs.laws.assignments.assignments.Goals as goal

pub returns : goal.returns
returns c = assignment.assignment_is_realised
