use Rattle.gos_supplies.proofs.applications.SideLemmas.{side_is_supplied, first_is_realised, second_is_realised}
use Rattle.gos_supplies.proofs.laws.applications.projections.Goals as goal

pub returns-clause-supplied : goal.returns-clause-supplied
returns-clause-supplied c = side_is_supplied

pub returns-clause-first : goal.returns-clause-first
returns-clause-first c = first_is_realised

pub returns-clause-second : goal.returns-clause-second
returns-clause-second c = second_is_realised
