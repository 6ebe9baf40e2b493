use Rattle.gos_programs.proofs.contexts.SameLemmas.{swapped_same, move_same, moves_same, waits_same}
use Rattle.gos_programs.proofs.laws.contexts.same_stores.Goals as goal

pub returns-clause-swapped : goal.returns-clause-swapped
returns-clause-swapped c = swapped_same

pub returns-clause-one : goal.returns-clause-one
returns-clause-one c = move_same

pub returns-clause-all : goal.returns-clause-all
returns-clause-all c = moves_same

pub returns-clause-waits : goal.returns-clause-waits
returns-clause-waits c = waits_same
