use Rattle.gos_sharing.proofs.cores.HigherLemmas.{core_realises}
use Rattle.gos_sharing.proofs.cores.MatchedLemmas.{core_is_done}
use Rattle.gos_sharing.proofs.cores.RegularLemmas.{core_is_regular}
use Rattle.gos_sharing.proofs.cores.RestLemmas.{core_rests}
use Rattle.gos_sharing.proofs.laws.cores.cores.Goals as goal

pub returns-clause-regular : goal.returns-clause-regular
returns-clause-regular c = core_is_regular

pub returns-clause-done : goal.returns-clause-done
returns-clause-done c = core_is_done

pub returns-clause-realised : goal.returns-clause-realised
returns-clause-realised c = core_realises

pub returns-clause-rests : goal.returns-clause-rests
returns-clause-rests c = core_rests
