use Rattle.gos_joining.proofs.unions.UnionLemmas.{joining_is_union, union_is_joining}
use Rattle.gos_joining.proofs.laws.unions.unions.Goals as goal

pub returns-clause-union : goal.returns-clause-union
returns-clause-union c = joining_is_union

pub returns-clause-joining : goal.returns-clause-joining
returns-clause-joining c = union_is_joining
