use Rattle.gos_plan.proofs.DecidedLemmas.{one_state, order_is_decided, lists_are_decided, orderly_is_possible}
use Rattle.gos_plan.proofs.laws.orderly_is_decided.Goals as goal

pub returns-clause-one : goal.returns-clause-one
returns-clause-one c = one_state

pub returns-clause-element : goal.returns-clause-element
returns-clause-element c = order_is_decided

pub returns-clause-list : goal.returns-clause-list
returns-clause-list c = lists_are_decided

pub returns-clause-possible : goal.returns-clause-possible
returns-clause-possible c = orderly_is_possible
