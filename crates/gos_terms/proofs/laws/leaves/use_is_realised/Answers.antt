use Rattle.gos_terms.proofs.leaves.UseLemmas.{use_is_realised}
use Rattle.gos_terms.proofs.laws.leaves.use_is_realised.Goals as goal

pub returns : goal.returns
returns c = use_is_realised
