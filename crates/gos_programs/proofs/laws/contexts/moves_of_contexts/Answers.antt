use Rattle.gos_programs.proofs.contexts.WholeLemmas.{move_of_context, no_answer_of_context, move_of_both}
use Rattle.gos_programs.proofs.contexts.BackwardLemmas.{unfoldings_within, unfoldings_of_both, steps_within, steps_of_both, labels_within, labels_of_both, waits_within, both_wait, right_waits, left_waits}
use Rattle.gos_programs.proofs.laws.contexts.moves_of_contexts.Goals as goal

pub returns-clause-unfoldings : goal.returns-clause-unfoldings
returns-clause-unfoldings c = unfoldings_within

pub returns-clause-unfoldings_of_both : goal.returns-clause-unfoldings_of_both
returns-clause-unfoldings_of_both c = unfoldings_of_both

pub returns-clause-steps : goal.returns-clause-steps
returns-clause-steps c = steps_within

pub returns-clause-steps_of_both : goal.returns-clause-steps_of_both
returns-clause-steps_of_both c = steps_of_both

pub returns-clause-labels : goal.returns-clause-labels
returns-clause-labels c = labels_within

pub returns-clause-labels_of_both : goal.returns-clause-labels_of_both
returns-clause-labels_of_both c = labels_of_both

pub returns-clause-waits : goal.returns-clause-waits
returns-clause-waits c = waits_within

pub returns-clause-both : goal.returns-clause-both
returns-clause-both c = both_wait

pub returns-clause-right : goal.returns-clause-right
returns-clause-right c = right_waits

pub returns-clause-left : goal.returns-clause-left
returns-clause-left c = left_waits

pub returns-clause-one : goal.returns-clause-one
returns-clause-one c = move_of_context

pub returns-clause-no_answer : goal.returns-clause-no_answer
returns-clause-no_answer c = no_answer_of_context

pub returns-clause-one_of_both : goal.returns-clause-one_of_both
returns-clause-one_of_both c = move_of_both
