use Rattle.gos_supplies.proofs.unjoined.HomeLemmas.{web_is_beside}
use Rattle.gos_supplies.proofs.laws.unjoined.web_is_beside.Goals as goal

pub returns : goal.returns
returns c = web_is_beside
