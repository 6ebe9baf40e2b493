use Rattle.gos_programs.proofs.contexts.EndedLemmas.{right_waits_for_ended, left_waits_for_ended}
use Rattle.gos_programs.proofs.laws.contexts.waits_for_ended.Goals as goal

pub returns-clause-right : goal.returns-clause-right
returns-clause-right c = right_waits_for_ended

pub returns-clause-left : goal.returns-clause-left
returns-clause-left c = left_waits_for_ended
