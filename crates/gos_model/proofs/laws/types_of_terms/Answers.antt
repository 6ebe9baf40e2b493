use Rattle.gos_model.proofs.TypingLemmas.{node_has_type, one_type}
use Rattle.gos_model.proofs.laws.types_of_terms.Goals as goal

pub returns-clause-node : goal.returns-clause-node
returns-clause-node c = node_has_type

pub returns-clause-one : goal.returns-clause-one
returns-clause-one c = one_type
