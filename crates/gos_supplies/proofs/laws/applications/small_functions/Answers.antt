use Rattle.gos_supplies.proofs.applications.SmallFunctionLemmas.{same_is_function, unjoined_is_no_body}
use Rattle.gos_supplies.proofs.laws.applications.small_functions.Goals as goal

pub returns-clause-same : goal.returns-clause-same
returns-clause-same c = same_is_function

pub returns-clause-unjoined : goal.returns-clause-unjoined
returns-clause-unjoined c = unjoined_is_no_body
