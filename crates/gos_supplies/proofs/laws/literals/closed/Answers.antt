use Rattle.gos_supplies.proofs.literals.ClosedLemmas.{closed_is_open}
use Rattle.gos_supplies.proofs.literals.LeafLemmas.{literal_is_open, done_is_open}
use Rattle.gos_supplies.proofs.laws.literals.closed.Goals as goal

pub returns-clause-plans : goal.returns-clause-plans
returns-clause-plans c = closed_is_open

pub returns-clause-number : goal.returns-clause-number
returns-clause-number c = literal_is_open

pub returns-clause-skip : goal.returns-clause-skip
returns-clause-skip c = done_is_open
