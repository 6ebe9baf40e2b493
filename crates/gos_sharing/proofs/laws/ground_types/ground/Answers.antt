use Rattle.gos_sharing.proofs.ground_types.GroundLemmas.{ground_result_is_joined, buffered_ground_is_realised}
use Rattle.gos_sharing.proofs.laws.ground_types.ground.Goals as goal

pub returns-clause-joined : goal.returns-clause-joined
returns-clause-joined c = ground_result_is_joined

pub returns-clause-buffered : goal.returns-clause-buffered
returns-clause-buffered c = buffered_ground_is_realised
