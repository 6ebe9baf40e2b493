use Rattle.gos_compile.proofs.PlanLemmas.{plan_is_one}
use Rattle.gos_compile.proofs.laws.one_plan.Goals as goal

pub returns : goal.returns
returns c = plan_is_one
