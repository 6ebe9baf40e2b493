use Rattle.gos_supplies.proofs.turns.OpenedLemmas.{function_is_regular}
use Rattle.gos_supplies.proofs.laws.turns.functions.Goals as goal

pub returns : goal.returns
returns c = function_is_regular
