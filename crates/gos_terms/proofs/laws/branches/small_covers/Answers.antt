use Rattle.gos_terms.proofs.branches.SmallLemmas.{one_is_its_child, none_is_left_out, none_is_twice}
use Rattle.gos_terms.proofs.laws.branches.small_covers.Goals as goal

pub returns-clause-one : goal.returns-clause-one
returns-clause-one c = one_is_its_child

pub returns-clause-left_out : goal.returns-clause-left_out
returns-clause-left_out c = none_is_left_out

pub returns-clause-twice : goal.returns-clause-twice
returns-clause-twice c = none_is_twice
