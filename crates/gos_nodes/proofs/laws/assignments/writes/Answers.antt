use Rattle.gos_nodes.proofs.assignments.AssignLemmas.{writes_are_staged, quiet_is_within, assign_can}
use Rattle.gos_nodes.proofs.laws.assignments.writes.Goals as goal

pub returns-clause-staged : goal.returns-clause-staged
returns-clause-staged c = writes_are_staged

pub returns-clause-quiet : goal.returns-clause-quiet
returns-clause-quiet c = quiet_is_within

pub returns-clause-own : goal.returns-clause-own
returns-clause-own c = assign_can
