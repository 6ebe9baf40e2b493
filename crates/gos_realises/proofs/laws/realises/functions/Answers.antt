use Rattle.gos_realises.proofs.realises.HeadLemmas.{heads_are_realised}
use Rattle.gos_realises.proofs.realises.SameLemmas.{same_is_realised}
use Rattle.gos_realises.proofs.laws.realises.functions.Goals as goal

pub returns-clause-heads : goal.returns-clause-heads
returns-clause-heads c = heads_are_realised

pub returns-clause-same : goal.returns-clause-same
returns-clause-same c = same_is_realised
