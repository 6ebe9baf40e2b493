use Rattle.gos_linked.proofs.linked.TypedLemmas.{substituted_is_typed}
use Rattle.gos_linked.proofs.laws.linked.substituted_is_typed.Goals as goal

pub returns : goal.returns
returns c = substituted_is_typed
