use Rattle.gos_terms.proofs.regions.SmallFrameLemmas.{uses_are_parted, shared_is_not_parted, use_is_bound, other_is_not_bound, use_speaks_of_it, not_of_parts, ports_have_names, ground_name_is_none, whole_is_kept, torn_is_not_kept}
use Rattle.gos_terms.proofs.laws.regions.small_frames.Goals as goal

pub returns-clause-parted : goal.returns-clause-parted
returns-clause-parted c = uses_are_parted

pub returns-clause-shared : goal.returns-clause-shared
returns-clause-shared c = shared_is_not_parted

pub returns-clause-bound : goal.returns-clause-bound
returns-clause-bound c = use_is_bound

pub returns-clause-unbound : goal.returns-clause-unbound
returns-clause-unbound c = other_is_not_bound

pub returns-clause-spoken : goal.returns-clause-spoken
returns-clause-spoken c = use_speaks_of_it

pub returns-clause-unspoken : goal.returns-clause-unspoken
returns-clause-unspoken c = not_of_parts

pub returns-clause-named : goal.returns-clause-named
returns-clause-named c = ports_have_names

pub returns-clause-unnamed : goal.returns-clause-unnamed
returns-clause-unnamed c = ground_name_is_none

pub returns-clause-whole : goal.returns-clause-whole
returns-clause-whole c = whole_is_kept

pub returns-clause-torn : goal.returns-clause-torn
returns-clause-torn c = torn_is_not_kept
