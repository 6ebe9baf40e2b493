use Rattle.gos_nodes.proofs.folds.PlanLemmas.{fold_has_plan}
use Rattle.gos_nodes.proofs.laws.folds.folds_have_plans.Goals as goal

pub returns : goal.returns
returns c = fold_has_plan
