use Rattle.gos_terms.proofs.numbers.InheritedLemmas.{body_is_kept, part_is_kept, both_are_kept, both_are_parted, three_are_kept}
use Rattle.gos_terms.proofs.laws.numbers.parts_are_kept.Goals as goal

pub returns-clause-body : goal.returns-clause-body
returns-clause-body c = body_is_kept

pub returns-clause-one : goal.returns-clause-one
returns-clause-one c = part_is_kept

pub returns-clause-both : goal.returns-clause-both
returns-clause-both c = both_are_kept

pub returns-clause-parted : goal.returns-clause-parted
returns-clause-parted c = both_are_parted

pub returns-clause-three : goal.returns-clause-three
returns-clause-three c = three_are_kept
