use Rattle.gos_terms.proofs.leaves.RegularLemmas.{use_is_regular, skip_is_regular, literal_is_regular}
use Rattle.gos_terms.proofs.laws.leaves.leaves_are_regular.Goals as goal

pub returns-clause-used : goal.returns-clause-used
returns-clause-used c = use_is_regular

pub returns-clause-skip : goal.returns-clause-skip
returns-clause-skip c = skip_is_regular

pub returns-clause-literal : goal.returns-clause-literal
returns-clause-literal c = literal_is_regular
