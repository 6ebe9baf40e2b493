use Rattle.gos_supplies.proofs.unjoined.LooseLemmas.{loose_is_regular, loose_rests}
use Rattle.gos_supplies.proofs.laws.unjoined.loose_is_regular.Goals as goal

pub returns-clause-regular : goal.returns-clause-regular
returns-clause-regular c = loose_is_regular

pub returns-clause-rests : goal.returns-clause-rests
returns-clause-rests c = loose_rests
