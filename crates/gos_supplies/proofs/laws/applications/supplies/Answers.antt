use Rattle.gos_supplies.proofs.applications.InTurnLemmas.{in_turn_is_at_once}
use Rattle.gos_supplies.proofs.laws.applications.supplies.Goals as goal

pub returns : goal.returns
returns c = in_turn_is_at_once
