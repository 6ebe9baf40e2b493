use Rattle.gos_linked.proofs.linked.LinkedLemmas.{linked_is_realised}
use Rattle.gos_linked.proofs.linked.OpenLemmas.{linked_is_ground}
use Rattle.gos_linked.proofs.laws.linked.linked_plans.Goals as goal

pub returns-clause-realised : goal.returns-clause-realised
returns-clause-realised c = linked_is_realised c.rewired_trees.ensures

pub returns-clause-ground : goal.returns-clause-ground
returns-clause-ground c = linked_is_ground
