use Rattle.gos_plan.proofs.SideLemmas.{pairs_join, functions_join, sides_turn_back}
use Rattle.gos_plan.proofs.laws.sides.Goals as goal

pub returns-clause-pair : goal.returns-clause-pair
returns-clause-pair c = pairs_join

pub returns-clause-function : goal.returns-clause-function
returns-clause-function c = functions_join

pub returns-clause-turned : goal.returns-clause-turned
returns-clause-turned c = sides_turn_back
