use Rattle.gos_terms.proofs.stages.InsideLemmas.{inside_is_of_types, inside_is_ordered, realised_are_ordered, inside_is_realised, inside_means, others_stay}
use Rattle.gos_terms.proofs.laws.stages.supplies_inside.Goals as goal

pub returns-clause-types : goal.returns-clause-types
returns-clause-types c = inside_is_of_types

pub returns-clause-ordered : goal.returns-clause-ordered
returns-clause-ordered c = inside_is_ordered

pub returns-clause-are_ordered : goal.returns-clause-are_ordered
returns-clause-are_ordered c = realised_are_ordered

pub returns-clause-realised : goal.returns-clause-realised
returns-clause-realised c = inside_is_realised c.passing.ensures

pub returns-clause-means : goal.returns-clause-means
returns-clause-means c = inside_means

pub returns-clause-others : goal.returns-clause-others
returns-clause-others c = others_stay
