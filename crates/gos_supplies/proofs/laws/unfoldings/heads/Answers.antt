use Rattle.gos_supplies.proofs.unfoldings.HeadLemmas.{head_is_realised}
use Rattle.gos_supplies.proofs.laws.unfoldings.heads.Goals as goal

pub returns : goal.returns
returns c = head_is_realised
