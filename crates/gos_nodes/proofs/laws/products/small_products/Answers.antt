use Rattle.gos_nodes.proofs.products.SmallBothLemmas.{skips_are_both, shared_are_both, crossed_is_none}
use Rattle.gos_nodes.proofs.laws.products.small_products.Goals as goal

pub returns-clause-skips : goal.returns-clause-skips
returns-clause-skips c = skips_are_both

pub returns-clause-shared : goal.returns-clause-shared
returns-clause-shared c = shared_are_both c.order.ensures.lies c.order.ensures.regular

pub returns-clause-crossed : goal.returns-clause-crossed
returns-clause-crossed c = crossed_is_none
