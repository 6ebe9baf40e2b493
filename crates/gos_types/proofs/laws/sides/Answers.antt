use Rattle.gos_types.proofs.SideLemmas.{pairs_have_sides, functions_have_sides}
use Rattle.gos_types.proofs.laws.sides.Goals as goal

pub returns-clause-pair : goal.returns-clause-pair
returns-clause-pair c = pairs_have_sides

pub returns-clause-function : goal.returns-clause-function
returns-clause-function c = functions_have_sides
