use Rattle.gos_terms.proofs.applying.ApplyLemmas.{application_is_applied}
use Rattle.gos_terms.proofs.laws.applying.applications_are_joined.Goals as goal

pub returns : goal.returns
returns c = application_is_applied
