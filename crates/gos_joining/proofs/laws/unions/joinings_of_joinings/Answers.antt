use Rattle.gos_joining.proofs.unions.FlatLemmas.{joinings_join, flat_joins}
use Rattle.gos_joining.proofs.laws.unions.joinings_of_joinings.Goals as goal

pub returns-clause-flat : goal.returns-clause-flat
returns-clause-flat c = joinings_join

pub returns-clause-joins : goal.returns-clause-joins
returns-clause-joins c = flat_joins
