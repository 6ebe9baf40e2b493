use Rattle.gos_supplies.proofs.turns.TreeLemmas.{tree_is_regular, rewired_tree_is_regular}
use Rattle.gos_supplies.proofs.laws.turns.trees.Goals as goal

pub returns-clause-tree : goal.returns-clause-tree
returns-clause-tree c = tree_is_regular

pub returns-clause-rewired : goal.returns-clause-rewired
returns-clause-rewired c = rewired_tree_is_regular
