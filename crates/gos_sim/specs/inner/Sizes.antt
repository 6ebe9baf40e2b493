-- What clauses see of a simulator, whatever the size of its words is.
--
-- Read first: Cycle.
use Rattle.gos_sim.specs.Cycle.{Simulator}
use Rattle.gos_sim.specs.declared.sim.Sizes.{Sizes}
use Rattle.gos_sim.specs.declared.sim.Sizes.TheVariants.{Narrow, Wide}

abbrev pub seen_in : Sizes → Simulator
seen_in (Narrow sim) = sim
seen_in (Wide sim) = sim
