use Rattle.gos_nodes.proofs.assignments.MatchedLemmas.{write_realises, write_realises_by_type}
use Rattle.gos_nodes.proofs.laws.assignments.writes_realise.Goals as goal

pub returns-clause-realises : goal.returns-clause-realises
returns-clause-realises c = write_realises

pub returns-clause-by_type : goal.returns-clause-by_type
returns-clause-by_type c = write_realises_by_type
