use Rattle.gos_programs.proofs.variables.SmallLemmas.{one_waits, wait_is_reached, index_waits_too, labels_are_counted, answers_are_not_active}
use Rattle.gos_programs.proofs.laws.variables.small_variables.Goals as goal

pub returns : goal.returns
returns c = record { one = one_waits; reached = wait_is_reached; index = index_waits_too; counted = labels_are_counted; active = answers_are_not_active }
