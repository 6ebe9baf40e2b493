use Rattle.gos_terms.proofs.run_children.ChildLemmas.{branch_is_child}
use Rattle.gos_terms.proofs.run_children.PartLemmas.{branch_has_parts}
use Rattle.gos_terms.proofs.laws.run_children.branches_are_children.Goals as goal

pub returns-clause-child : goal.returns-clause-child
returns-clause-child c = branch_is_child

pub returns-clause-parts : goal.returns-clause-parts
returns-clause-parts c = branch_has_parts
