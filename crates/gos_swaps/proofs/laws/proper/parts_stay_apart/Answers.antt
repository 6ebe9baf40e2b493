use Rattle.gos_swaps.proofs.proper.PutLemmas.{putting_keeps_apart}
use Rattle.gos_swaps.proofs.proper.ShrinkLemmas.{unfoldings_keep_apart, acts_keep_apart}
use Rattle.gos_swaps.proofs.laws.proper.parts_stay_apart.Goals as goal

pub returns-clause-putting : goal.returns-clause-putting
returns-clause-putting c = putting_keeps_apart

pub returns-clause-unfoldings : goal.returns-clause-unfoldings
returns-clause-unfoldings c = unfoldings_keep_apart

pub returns-clause-acts : goal.returns-clause-acts
returns-clause-acts c = acts_keep_apart
