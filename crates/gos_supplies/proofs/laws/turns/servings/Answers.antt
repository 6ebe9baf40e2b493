use Rattle.gos_supplies.proofs.turns.ServeLemmas.{serving_is_regular, supplied_is_regular}
use Rattle.gos_supplies.proofs.laws.turns.servings.Goals as goal

pub returns-clause-served : goal.returns-clause-served
returns-clause-served c = serving_is_regular

pub returns-clause-supplied : goal.returns-clause-supplied
returns-clause-supplied c = supplied_is_regular
