use Rattle.gos_terms.proofs.ground_forms.ParallelLemmas.{parallel_case}
use Rattle.gos_terms.proofs.laws.ground_forms.parallel_nodes.Goals as goal

pub returns : goal.returns
returns c = parallel_case c.parallel_sides.ensures c.parallel.ensures.realises
