use Rattle.gos_supplies.proofs.turns.ApplyLemmas.{applying_is_regular}
use Rattle.gos_supplies.proofs.laws.turns.applications.Goals as goal

pub returns : goal.returns
returns c = applying_is_regular
