use Rattle.gos_terms.proofs.regular_and_resting.ParallelLemmas.{parallel_is_steady}
use Rattle.gos_terms.proofs.laws.regular_and_resting.parallel_nodes.Goals as goal

pub returns : goal.returns
returns c = parallel_is_steady
