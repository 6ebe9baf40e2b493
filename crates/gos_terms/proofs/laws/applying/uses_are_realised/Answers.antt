use Rattle.gos_terms.proofs.applying.RealisedLemmas.{first_is_realised, second_is_realised, deref_is_realised, application_is_realised}
use Rattle.gos_terms.proofs.laws.applying.uses_are_realised.Goals as goal

pub returns-clause-first : goal.returns-clause-first
returns-clause-first c = first_is_realised

pub returns-clause-second : goal.returns-clause-second
returns-clause-second c = second_is_realised

pub returns-clause-deref : goal.returns-clause-deref
returns-clause-deref c = deref_is_realised

pub returns-clause-application : goal.returns-clause-application
returns-clause-application c = application_is_realised
