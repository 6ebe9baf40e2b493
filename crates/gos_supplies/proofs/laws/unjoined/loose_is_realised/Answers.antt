use Rattle.gos_supplies.proofs.unjoined.LooseLemmas.{loose_is_realised}
use Rattle.gos_supplies.proofs.laws.unjoined.loose_is_realised.Goals as goal

pub returns : goal.returns
returns c = loose_is_realised
