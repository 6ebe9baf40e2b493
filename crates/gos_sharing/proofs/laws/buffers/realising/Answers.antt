use Rattle.gos_sharing.proofs.buffers.MatchedLemmas.{buffered_realises}
use Rattle.gos_sharing.proofs.laws.buffers.realising.Goals as goal

pub returns : goal.returns
returns c = buffered_realises
