use Rattle.gos_nodes.proofs.nodes.MatchedLemmas.{node_is_matched, node_realises}
use Rattle.gos_nodes.proofs.nodes.SuitLemmas.{node_realises_by_type}
use Rattle.gos_nodes.proofs.laws.nodes.nodes_realise.Goals as goal

pub returns-clause-matched : goal.returns-clause-matched
returns-clause-matched c = node_is_matched

pub returns-clause-realised : goal.returns-clause-realised
returns-clause-realised c = node_realises

pub returns-clause-by_type : goal.returns-clause-by_type
returns-clause-by_type c = node_realises_by_type
