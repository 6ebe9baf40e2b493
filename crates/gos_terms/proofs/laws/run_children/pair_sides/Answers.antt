use Rattle.gos_terms.proofs.run_children.PairLemmas.{sides_are_children, sides_have_parts}
use Rattle.gos_terms.proofs.laws.run_children.pair_sides.Goals as goal

pub returns-clause-children : goal.returns-clause-children
returns-clause-children c = sides_are_children

pub returns-clause-parts : goal.returns-clause-parts
returns-clause-parts c = sides_have_parts
