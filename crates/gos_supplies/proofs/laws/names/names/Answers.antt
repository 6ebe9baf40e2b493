use Rattle.gos_supplies.proofs.names.GroundLemmas.{name_is_realised}
use Rattle.gos_supplies.proofs.laws.names.names.Goals as goal

pub returns : goal.returns
returns c = name_is_realised c.one_joining.ensures c.alone.ensures.order
