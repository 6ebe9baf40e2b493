use Rattle.gos_swaps.proofs.doings.HeadLemmas.{unfoldings_have_head_paths}
use Rattle.gos_swaps.proofs.doings.PlaceLemmas.{acts_have_paths}
use Rattle.gos_swaps.proofs.laws.doings.paths_of_doings.Goals as goal

pub returns-clause-unfoldings : goal.returns-clause-unfoldings
returns-clause-unfoldings c = unfoldings_have_head_paths

pub returns-clause-acts : goal.returns-clause-acts
returns-clause-acts c = acts_have_paths
