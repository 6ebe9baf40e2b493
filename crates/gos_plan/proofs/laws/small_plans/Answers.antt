use Rattle.gos_plan.proofs.JoiningLemmas.{skip_is_joined}
use Rattle.gos_plan.proofs.SmallPlanLemmas.{skip_runs_in_order, haste_is_no_order}
use Rattle.gos_plan.proofs.laws.small_plans.Goals as goal

pub returns-clause-order : goal.returns-clause-order
returns-clause-order c = skip_runs_in_order

pub returns-clause-haste : goal.returns-clause-haste
returns-clause-haste c = haste_is_no_order

pub returns-clause-joined : goal.returns-clause-joined
returns-clause-joined c = skip_is_joined
