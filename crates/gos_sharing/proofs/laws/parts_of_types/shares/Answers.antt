use Rattle.gos_sharing.proofs.parts_of_types.FollowLemmas.{narrow_is_regular, narrow_is_done, narrow_rests}
use Rattle.gos_sharing.proofs.parts_of_types.ThereLemmas.{narrow_is_there}
use Rattle.gos_sharing.proofs.laws.parts_of_types.shares.Goals as goal

pub returns-clause-regular : goal.returns-clause-regular
returns-clause-regular c = narrow_is_regular

pub returns-clause-done : goal.returns-clause-done
returns-clause-done c = narrow_is_done

pub returns-clause-there : goal.returns-clause-there
returns-clause-there c = narrow_is_there

pub returns-clause-rests : goal.returns-clause-rests
returns-clause-rests c = narrow_rests
