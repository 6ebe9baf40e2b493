use Rattle.gos_terms.proofs.stages.InsideRegularLemmas.{passing_is_regular_of, inside_is_regular}
use Rattle.gos_terms.proofs.laws.stages.regular_inside.Goals as goal

pub returns-clause-passing : goal.returns-clause-passing
returns-clause-passing c = passing_is_regular_of

pub returns-clause-inside : goal.returns-clause-inside
returns-clause-inside c = inside_is_regular
