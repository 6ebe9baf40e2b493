use Rattle.gos_terms.proofs.leaves.ReaderLemmas.{reading_is_regular}
use Rattle.gos_terms.proofs.leaves.RegularLemmas.{read_is_regular}
use Rattle.gos_terms.proofs.laws.leaves.readings_are_regular.Goals as goal

pub returns-clause-joined : goal.returns-clause-joined
returns-clause-joined c = reading_is_regular

pub returns-clause-read : goal.returns-clause-read
returns-clause-read c = read_is_regular
