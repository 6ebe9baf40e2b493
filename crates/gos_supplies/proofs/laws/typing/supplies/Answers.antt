use Rattle.gos_supplies.proofs.typing.WhenceLemmas.{supplied_term_is_typed}
use Rattle.gos_supplies.proofs.typing.LeftLemmas.{imports_are_of_supplies}
use Rattle.gos_supplies.proofs.typing.SupplyLemmas.{supplied_is_typed}
use Rattle.gos_supplies.proofs.laws.typing.supplies.Goals as goal

pub returns-clause-terms : goal.returns-clause-terms
returns-clause-terms c = supplied_term_is_typed

pub returns-clause-imports : goal.returns-clause-imports
returns-clause-imports c = imports_are_of_supplies

pub returns-clause-plans : goal.returns-clause-plans
returns-clause-plans c = supplied_is_typed
