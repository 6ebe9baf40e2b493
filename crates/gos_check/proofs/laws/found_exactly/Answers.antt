use Rattle.gos_check.proofs.ModuleLemmas as lemmas
use Rattle.gos_check.proofs.laws.found_exactly.Goals as goal

pub returns : goal.returns
returns c = lemmas.found_exactly c.types_of_terms.ensures.node
