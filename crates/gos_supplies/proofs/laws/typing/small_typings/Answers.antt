use Rattle.gos_supplies.proofs.typing.SmallLemmas.{one_is_enough, one_is_too_few, changed_are_typed, changed_share_nothing, shared_are_typed, shared_are_shared, shared_has_no_type}
use Rattle.gos_supplies.proofs.laws.typing.small_typings.Goals as goal

pub returns-clause-enough : goal.returns-clause-enough
returns-clause-enough c = one_is_enough

pub returns-clause-few : goal.returns-clause-few
returns-clause-few c = one_is_too_few

pub returns-clause-changed : goal.returns-clause-changed
returns-clause-changed c = changed_are_typed

pub returns-clause-apart : goal.returns-clause-apart
returns-clause-apart c = changed_share_nothing

pub returns-clause-typed : goal.returns-clause-typed
returns-clause-typed c = shared_are_typed

pub returns-clause-shared : goal.returns-clause-shared
returns-clause-shared c = shared_are_shared

pub returns-clause-no_type : goal.returns-clause-no_type
returns-clause-no_type c = shared_has_no_type
