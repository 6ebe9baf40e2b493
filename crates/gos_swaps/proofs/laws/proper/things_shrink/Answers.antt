use Rattle.gos_swaps.proofs.proper.ShrinkLemmas.{unfoldings_shrink, acts_shrink}
use Rattle.gos_swaps.proofs.laws.proper.things_shrink.Goals as goal

pub returns-clause-unfoldings : goal.returns-clause-unfoldings
returns-clause-unfoldings c = unfoldings_shrink

pub returns-clause-acts : goal.returns-clause-acts
returns-clause-acts c = acts_shrink
