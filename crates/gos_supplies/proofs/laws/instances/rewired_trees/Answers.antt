use Rattle.gos_supplies.proofs.instances.BodyLemmas.{rewired_tree_is_open}
use Rattle.gos_supplies.proofs.laws.instances.rewired_trees.Goals as goal

pub returns : goal.returns
returns c = rewired_tree_is_open c.open_renumberings.ensures
