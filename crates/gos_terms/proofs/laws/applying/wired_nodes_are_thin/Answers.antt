use Rattle.gos_terms.proofs.applying.PlainLemmas.{wired_is_thin}
use Rattle.gos_terms.proofs.laws.applying.wired_nodes_are_thin.Goals as goal

pub returns : goal.returns
returns c = wired_is_thin
