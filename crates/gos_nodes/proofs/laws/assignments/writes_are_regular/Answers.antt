use Rattle.gos_nodes.proofs.assignments.AssignLemmas as assign
use Rattle.gos_nodes.proofs.laws.assignments.writes_are_regular.Goals as goal

pub returns : goal.returns
returns c = assign.write_is_regular
