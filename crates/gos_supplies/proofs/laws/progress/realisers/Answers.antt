use Rattle.gos_supplies.proofs.progress.RealiserLemmas.{realisers_are_joined}
use Rattle.gos_supplies.proofs.laws.progress.realisers.Goals as goal

pub returns : goal.returns
returns c = realisers_are_joined
