use Rattle.gos_sharing.proofs.behind.PassingLemmas.{lies_behind_share}
use Rattle.gos_sharing.proofs.behind.RestLemmas.{behind_rests}
use Rattle.gos_sharing.proofs.behind.RegularLemmas.{behind_is_regular}
use Rattle.gos_sharing.proofs.laws.behind.order.Goals as goal

pub returns-clause-lies : goal.returns-clause-lies
returns-clause-lies c = lies_behind_share

pub returns-clause-regular : goal.returns-clause-regular
returns-clause-regular c = behind_is_regular

pub returns-clause-rests : goal.returns-clause-rests
returns-clause-rests c = behind_rests
