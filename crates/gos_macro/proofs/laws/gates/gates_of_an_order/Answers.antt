use Rattle.gos_macro.proofs.PassingShareLemmas.{gates_of_the_order, gates_of_another_order, order_counts, answer_first_paths, answer_last_paths}
use Rattle.gos_macro.proofs.laws.gates.gates_of_an_order.Goals as goal

pub returns-clause-own : goal.returns-clause-own
returns-clause-own c = gates_of_the_order

pub returns-clause-other : goal.returns-clause-other
returns-clause-other c = gates_of_another_order

pub returns-clause-each : goal.returns-clause-each
returns-clause-each c = order_counts

pub returns-clause-answer_first : goal.returns-clause-answer_first
returns-clause-answer_first c = answer_first_paths

pub returns-clause-answer_last : goal.returns-clause-answer_last
returns-clause-answer_last c = answer_last_paths
