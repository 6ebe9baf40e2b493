use Rattle.gos_terms.proofs.wired.NodeFitLemmas.{checked_starts, realised_are_of_types, use_is_linear, twice_is_not_linear}
use Rattle.gos_terms.proofs.laws.wired.starts.Goals as goal

pub returns-clause-checked : goal.returns-clause-checked
returns-clause-checked c = checked_starts

pub returns-clause-types : goal.returns-clause-types
returns-clause-types c = realised_are_of_types

pub returns-clause-met : goal.returns-clause-met
returns-clause-met c = use_is_linear

pub returns-clause-missed : goal.returns-clause-missed
returns-clause-missed c = twice_is_not_linear
