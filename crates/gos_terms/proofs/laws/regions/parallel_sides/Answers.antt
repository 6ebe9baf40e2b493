use Rattle.gos_terms.proofs.regions.ParallelLemmas.{parallel_is_wired}
use Rattle.gos_terms.proofs.laws.regions.parallel_sides.Goals as goal

pub returns : goal.returns
returns c = parallel_is_wired
