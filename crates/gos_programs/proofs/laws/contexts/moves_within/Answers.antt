use Rattle.gos_programs.proofs.contexts.PluggedLemmas.{steps_plugged, unfoldings_plugged, acts_plugged, move_plugged, moves_plugged}
use Rattle.gos_programs.proofs.laws.contexts.moves_within.Goals as goal

pub returns-clause-steps : goal.returns-clause-steps
returns-clause-steps c = steps_plugged

pub returns-clause-unfoldings : goal.returns-clause-unfoldings
returns-clause-unfoldings c = unfoldings_plugged

pub returns-clause-acts : goal.returns-clause-acts
returns-clause-acts c = acts_plugged

pub returns-clause-one : goal.returns-clause-one
returns-clause-one c = move_plugged

pub returns-clause-all : goal.returns-clause-all
returns-clause-all c = moves_plugged
