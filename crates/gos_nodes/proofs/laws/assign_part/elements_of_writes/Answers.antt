use Rattle.gos_nodes.proofs.assign_part.ElementLemmas as lemmas
use Rattle.gos_nodes.proofs.laws.assign_part.elements_of_writes.Goals as goal

pub returns : goal.returns
returns c = lemmas.elements_of_writes
