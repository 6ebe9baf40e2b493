use Rattle.gos_nodes.proofs.folds.WayLemmas.{unmet_is_alone}
use Rattle.gos_nodes.proofs.laws.folds.unmet_ends_are_alone.Goals as goal

pub returns : goal.returns
returns c = unmet_is_alone
