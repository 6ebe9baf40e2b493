use Rattle.gos_supplies.proofs.applications.BodyLemmas.{opened_is_supplied, body_is_realised}
use Rattle.gos_supplies.proofs.laws.applications.functions.Goals as goal

pub returns-clause-supplied : goal.returns-clause-supplied
returns-clause-supplied c = opened_is_supplied

pub returns-clause-realised : goal.returns-clause-realised
returns-clause-realised c = body_is_realised
