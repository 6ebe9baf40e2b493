use Rattle.gos_supplies.proofs.unfoldings.FunctionLemmas.{function_is_realised}
use Rattle.gos_supplies.proofs.laws.unfoldings.functions.Goals as goal

pub returns : goal.returns
returns c = function_is_realised
