use Rattle.gos_nodes.proofs.folds.NumberedFoldLemmas.{numbered_is_fold, unnumbered_is_none}
use Rattle.gos_nodes.proofs.folds.SmallFoldLemmas.{call_is_fold, unshared_is_none, untied_is_none}
use Rattle.gos_nodes.proofs.laws.folds.small_folds.Goals as goal

pub returns-clause-fold : goal.returns-clause-fold
returns-clause-fold c = call_is_fold

pub returns-clause-unshared : goal.returns-clause-unshared
returns-clause-unshared c = unshared_is_none

pub returns-clause-untied : goal.returns-clause-untied
returns-clause-untied c = untied_is_none

pub returns-clause-numbered : goal.returns-clause-numbered
returns-clause-numbered c = numbered_is_fold

pub returns-clause-unnumbered : goal.returns-clause-unnumbered
returns-clause-unnumbered c = unnumbered_is_none
