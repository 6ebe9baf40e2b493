use Rattle.gos_pace.proofs.LatchLemmas.{latch_flattens}
use Rattle.gos_pace.proofs.laws.latch_pulses.Goals as goal

pub returns : goal.returns
returns c = latch_flattens
