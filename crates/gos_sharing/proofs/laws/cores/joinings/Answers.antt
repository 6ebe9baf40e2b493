use Rattle.gos_sharing.proofs.cores.JoinedLemmas.{joined_is_core}
use Rattle.gos_sharing.proofs.cores.VariableLemmas.{reading_is_still, writing_is_still}
use Rattle.gos_sharing.proofs.cores.WiringLemmas.{applying_is_still, sides_are_still}
use Rattle.gos_sharing.proofs.laws.cores.joinings.Goals as goal

pub returns-clause-core : goal.returns-clause-core
returns-clause-core c = joined_is_core

pub returns-clause-applying : goal.returns-clause-applying
returns-clause-applying c = applying_is_still

pub returns-clause-sides : goal.returns-clause-sides
returns-clause-sides c = sides_are_still

pub returns-clause-reading : goal.returns-clause-reading
returns-clause-reading c = reading_is_still

pub returns-clause-writing : goal.returns-clause-writing
returns-clause-writing c = writing_is_still
