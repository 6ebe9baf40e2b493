use Rattle.gos_plan.proofs.CallLemmas.{call_runs_in_order, unasked_is_no_order}
use Rattle.gos_plan.proofs.laws.small_calls.Goals as goal

pub returns-clause-order : goal.returns-clause-order
returns-clause-order c = call_runs_in_order

pub returns-clause-unasked : goal.returns-clause-unasked
returns-clause-unasked c = unasked_is_no_order
