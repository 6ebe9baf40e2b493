use Rattle.gos_sharing.proofs.loyal.SeatLemmas.{seats_compose, itself_is_seated, behind_is_seated}
use Rattle.gos_sharing.proofs.loyal.BeforeLemmas.{seated_is_before, seated_is_loyal}
use Rattle.gos_sharing.proofs.laws.loyal.seats.Goals as goal

pub returns-clause-compose : goal.returns-clause-compose
returns-clause-compose c = seats_compose

pub returns-clause-itself : goal.returns-clause-itself
returns-clause-itself c = itself_is_seated

pub returns-clause-behind : goal.returns-clause-behind
returns-clause-behind c = behind_is_seated

pub returns-clause-before : goal.returns-clause-before
returns-clause-before c = seated_is_before

pub returns-clause-loyal : goal.returns-clause-loyal
returns-clause-loyal c = seated_is_loyal
