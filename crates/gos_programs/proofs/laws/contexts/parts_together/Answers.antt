use Rattle.gos_programs.proofs.contexts.TogetherLemmas.{two_renamings, run_together, holds_both, move_together, moves_together, waits_together, both_wait_together, right_waits_together, left_waits_together}
use Rattle.gos_programs.proofs.laws.contexts.parts_together.Goals as goal

pub returns-clause-holds : goal.returns-clause-holds
returns-clause-holds c = holds_both

pub returns-clause-one : goal.returns-clause-one
returns-clause-one c = move_together

pub returns-clause-all : goal.returns-clause-all
returns-clause-all c = moves_together

pub returns-clause-waits : goal.returns-clause-waits
returns-clause-waits c = waits_together

pub returns-clause-both : goal.returns-clause-both
returns-clause-both c = both_wait_together

pub returns-clause-right : goal.returns-clause-right
returns-clause-right c = right_waits_together

pub returns-clause-left : goal.returns-clause-left
returns-clause-left c = left_waits_together

pub returns-clause-renamings : goal.returns-clause-renamings
returns-clause-renamings c = two_renamings

pub returns-clause-run : goal.returns-clause-run
returns-clause-run c = run_together
