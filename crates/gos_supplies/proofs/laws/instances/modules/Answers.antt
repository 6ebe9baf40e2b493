use Rattle.gos_supplies.proofs.instances.TypeLemmas.{served_is_typed, served_is_module}
use Rattle.gos_supplies.proofs.laws.instances.modules.Goals as goal

pub returns-clause-typed : goal.returns-clause-typed
returns-clause-typed c = served_is_typed

pub returns-clause-served : goal.returns-clause-served
returns-clause-served c = served_is_module
