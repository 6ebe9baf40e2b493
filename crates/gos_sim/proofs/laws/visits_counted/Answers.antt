use Rattle.gos_sim.proofs.VisitLawLemmas.{latch_visits, one_count}
use Rattle.gos_sim.proofs.laws.visits_counted.Goals as goal

pub returns-clause-one : goal.returns-clause-one
returns-clause-one c = one_count

pub returns-clause-latch : goal.returns-clause-latch
returns-clause-latch c = latch_visits
