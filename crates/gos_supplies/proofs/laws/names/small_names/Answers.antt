use Rattle.gos_supplies.proofs.names.SmallNameLemmas.{unjoined_is_none}
use Rattle.gos_supplies.proofs.laws.names.small_names.Goals as goal

pub returns : goal.returns
returns c = unjoined_is_none c.realisers.ensures
