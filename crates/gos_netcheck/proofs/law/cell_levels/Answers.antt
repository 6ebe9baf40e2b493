use Rattle.gos_netcheck.proofs.LevelLawLemmas.{gates_rise, latch_has_levels, one_levels, ring_has_no_levels}
use Rattle.gos_netcheck.proofs.law.cell_levels.Goals as goal

pub returns-clause-one : goal.returns-clause-one
returns-clause-one c = one_levels

pub returns-clause-latch : goal.returns-clause-latch
returns-clause-latch c = latch_has_levels

pub returns-clause-rise : goal.returns-clause-rise
returns-clause-rise c = gates_rise

pub returns-clause-ring : goal.returns-clause-ring
returns-clause-ring c = ring_has_no_levels
