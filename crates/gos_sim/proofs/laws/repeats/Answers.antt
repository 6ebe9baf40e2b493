use Rattle.gos_sim.proofs.RepeatLemmas.{latch_repeats, stays_as_it_is}
use Rattle.gos_sim.proofs.laws.repeats.Goals as goal

pub returns-clause-same : goal.returns-clause-same
returns-clause-same c = stays_as_it_is

pub returns-clause-latch : goal.returns-clause-latch
returns-clause-latch c = latch_repeats
