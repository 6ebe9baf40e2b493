use Rattle.gos_sharing.proofs.ground_types.VariableLemmas.{variable_is_joined}
use Rattle.gos_sharing.proofs.laws.ground_types.variables.Goals as goal

pub returns : goal.returns
returns c = variable_is_joined
