use Rattle.gos_model.proofs.PathLemmas.{steps_have_paths, labels_have_paths, unfoldings_have_paths}
use Rattle.gos_model.proofs.laws.reached_places.Goals as goal

pub returns-clause-step : goal.returns-clause-step
returns-clause-step c = steps_have_paths

pub returns-clause-label : goal.returns-clause-label
returns-clause-label c = labels_have_paths

pub returns-clause-unfolding : goal.returns-clause-unfolding
returns-clause-unfolding c = unfoldings_have_paths
