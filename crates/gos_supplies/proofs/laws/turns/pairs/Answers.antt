use Rattle.gos_supplies.proofs.turns.MakeLemmas.{pair_plan_is_there}
use Rattle.gos_supplies.proofs.turns.PairLemmas.{pair_plan_is_regular, pair_is_regular}
use Rattle.gos_supplies.proofs.laws.turns.pairs.Goals as goal

pub returns-clause-maker : goal.returns-clause-maker
returns-clause-maker c = pair_plan_is_regular

pub returns-clause-pair : goal.returns-clause-pair
returns-clause-pair c = pair_is_regular

pub returns-clause-there : goal.returns-clause-there
returns-clause-there c = pair_plan_is_there
