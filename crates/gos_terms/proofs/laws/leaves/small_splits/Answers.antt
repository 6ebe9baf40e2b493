use Rattle.gos_terms.proofs.leaves.SmallLemmas.{twice_is_split, own_side_stands, own_side_is_no_fork, own_side_is_not_within}
use Rattle.gos_terms.proofs.laws.leaves.small_splits.Goals as goal

pub returns-clause-twice : goal.returns-clause-twice
returns-clause-twice c = twice_is_split

pub returns-clause-stands : goal.returns-clause-stands
returns-clause-stands c = own_side_stands

pub returns-clause-fork : goal.returns-clause-fork
returns-clause-fork c = own_side_is_no_fork

pub returns-clause-within : goal.returns-clause-within
returns-clause-within c = own_side_is_not_within
