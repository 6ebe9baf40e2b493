use Rattle.gos_terms.proofs.leaves.ReadLemmas.{read_is_realised}
use Rattle.gos_terms.proofs.laws.leaves.read_is_realised.Goals as goal

pub returns : goal.returns
returns c = read_is_realised
