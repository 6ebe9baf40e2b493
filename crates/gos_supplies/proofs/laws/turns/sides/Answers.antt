use Rattle.gos_supplies.proofs.turns.SideLemmas.{sides_are_regular}
use Rattle.gos_supplies.proofs.laws.turns.sides.Goals as goal

pub returns : goal.returns
returns c = sides_are_regular
