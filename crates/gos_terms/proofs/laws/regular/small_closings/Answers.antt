use Rattle.gos_terms.proofs.regular.SmallOpenedLemmas.{use_is_closed, closed_is_no_command, call_is_steady, call_is_no_function}
use Rattle.gos_terms.proofs.laws.regular.small_closings.Goals as goal

pub returns-clause-met : goal.returns-clause-met
returns-clause-met c = use_is_closed

pub returns-clause-missed : goal.returns-clause-missed
returns-clause-missed c = closed_is_no_command

pub returns-clause-steady : goal.returns-clause-steady
returns-clause-steady c = call_is_steady c.names.ensures.regular c.small_turned.ensures.call

pub returns-clause-unsteady : goal.returns-clause-unsteady
returns-clause-unsteady c = call_is_no_function
