use Rattle.gos_terms.proofs.leaves.ClosedLemmas.{skip_is_realised, literal_wired}
use Rattle.gos_terms.proofs.laws.leaves.closed_is_realised.Goals as goal

pub returns-clause-skip : goal.returns-clause-skip
returns-clause-skip c = skip_is_realised

pub returns-clause-literal : goal.returns-clause-literal
returns-clause-literal c = literal_wired
