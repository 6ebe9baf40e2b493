use Rattle.gos_supplies.proofs.progress.SmallLemmas.{skip_begins, wait_is_stalled, function_import_waits, waits_are_seen}
use Rattle.gos_supplies.proofs.laws.progress.small_progress.Goals as goal

pub returns-clause-skip : goal.returns-clause-skip
returns-clause-skip c = skip_begins

pub returns-clause-wait : goal.returns-clause-wait
returns-clause-wait c = wait_is_stalled

pub returns-clause-function : goal.returns-clause-function
returns-clause-function c = function_import_waits

pub returns-clause-waits : goal.returns-clause-waits
returns-clause-waits c = waits_are_seen
