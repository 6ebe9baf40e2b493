use Rattle.gos_types.proofs.TurnLemmas.{turning_twice}
use Rattle.gos_types.proofs.laws.turning_twice.Goals as goal

pub returns : goal.returns
returns c = turning_twice
