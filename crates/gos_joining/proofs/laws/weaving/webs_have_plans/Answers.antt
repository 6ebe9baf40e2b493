use Rattle.gos_joining.proofs.weaving.PlanLemmas.{web_has_plan}
use Rattle.gos_joining.proofs.laws.weaving.webs_have_plans.Goals as goal

pub returns : goal.returns
returns c = web_has_plan
