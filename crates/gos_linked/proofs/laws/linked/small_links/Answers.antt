use Rattle.gos_linked.proofs.linked.SmallLemmas.{served_is_substituted, unserved_stays, use_is_realised, skip_realises_no_use, use_is_typed, skip_types_no_use}
use Rattle.gos_linked.proofs.laws.linked.small_links.Goals as goal

pub returns-clause-served : goal.returns-clause-served
returns-clause-served c = served_is_substituted

pub returns-clause-unserved : goal.returns-clause-unserved
returns-clause-unserved c = unserved_stays

pub returns-clause-realised : goal.returns-clause-realised
returns-clause-realised c = use_is_realised c.small_realisers.ensures.applied

pub returns-clause-skip : goal.returns-clause-skip
returns-clause-skip c = skip_realises_no_use

pub returns-clause-typed : goal.returns-clause-typed
returns-clause-typed c = use_is_typed

pub returns-clause-other_type : goal.returns-clause-other_type
returns-clause-other_type c = skip_types_no_use
