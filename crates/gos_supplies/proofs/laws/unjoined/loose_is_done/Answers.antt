use Rattle.gos_supplies.proofs.unjoined.LooseLemmas.{loose_is_done}
use Rattle.gos_supplies.proofs.laws.unjoined.loose_is_done.Goals as goal

pub returns : goal.returns
returns c = loose_is_done
