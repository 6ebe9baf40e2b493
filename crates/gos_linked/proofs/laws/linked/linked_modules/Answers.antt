use Rattle.gos_linked.proofs.linked.ModuleLemmas.{linked_is_module, linked_is_done, linked_keeps_pace, linked_has_weight}
use Rattle.gos_linked.proofs.laws.linked.linked_modules.Goals as goal

pub returns-clause-module : goal.returns-clause-module
returns-clause-module c =
    linked_is_module c.linked_plans.ensures.realised c.linked_plans.ensures.ground c.ports.ensures.done
    c.slim_plans_fit.ensures.slim

pub returns-clause-done : goal.returns-clause-done
returns-clause-done c =
    linked_is_done c.linked_plans.ensures.realised c.linked_plans.ensures.ground c.ports.ensures.done

pub returns-clause-pace : goal.returns-clause-pace
returns-clause-pace c =
    linked_keeps_pace c.linked_plans.ensures.realised c.linked_plans.ensures.ground c.ports.ensures.done
    c.slim_plans_fit.ensures.slim c.modules_keep_pace.ensures.pace

pub returns-clause-weight : goal.returns-clause-weight
returns-clause-weight c = linked_has_weight
