use Rattle.gos_nodes.proofs.sessions.TableLemmas.{tables_are_right}
use Rattle.gos_nodes.proofs.laws.sessions.tables_are_right.Goals as goal

pub returns : goal.returns
returns c = tables_are_right
