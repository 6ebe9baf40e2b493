use Rattle.gos_linked.proofs.keeping.PacedLemmas.{module_is_plan_for, modules_keep_pace}
use Rattle.gos_linked.proofs.laws.keeping.modules_keep_pace.Goals as goal

pub returns-clause-plan : goal.returns-clause-plan
returns-clause-plan c = module_is_plan_for c.ports.ensures.done

pub returns-clause-pace : goal.returns-clause-pace
returns-clause-pace c = modules_keep_pace c.ports.ensures.done c.keeps_pace.ensures
