use Rattle.gos_sharing.proofs.loyal.SmallSeatLemmas.{same_is_seated, skip_is_not_seated}
use Rattle.gos_sharing.proofs.laws.loyal.small_seats.Goals as goal

pub returns-clause-same : goal.returns-clause-same
returns-clause-same c = same_is_seated c.small_plans.ensures.first

pub returns-clause-skip : goal.returns-clause-skip
returns-clause-skip c = skip_is_not_seated
