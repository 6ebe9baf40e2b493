use Rattle.gos_supplies.proofs.instances.ByLemmas.{served_is_by}
use Rattle.gos_supplies.proofs.instances.TreeLemmas.{tree_is_joined, tree_is_realised}
use Rattle.gos_supplies.proofs.instances.BodyLemmas.{tree_is_open}
use Rattle.gos_supplies.proofs.laws.instances.trees.Goals as goal

pub returns-clause-served : goal.returns-clause-served
returns-clause-served c = served_is_by

pub returns-clause-joined : goal.returns-clause-joined
returns-clause-joined c = tree_is_joined

pub returns-clause-realised : goal.returns-clause-realised
returns-clause-realised c = tree_is_realised

pub returns-clause-open_imports : goal.returns-clause-open_imports
returns-clause-open_imports c = tree_is_open
