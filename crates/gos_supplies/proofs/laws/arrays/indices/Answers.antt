use Rattle.gos_supplies.proofs.arrays.IndexLemmas.{index_moves, index_waits_so, waiting_is_stalled, index_ends_so}
use Rattle.gos_supplies.proofs.laws.arrays.indices.Goals as goal

pub returns-clause-moves : goal.returns-clause-moves
returns-clause-moves c = index_moves

pub returns-clause-waits : goal.returns-clause-waits
returns-clause-waits c = index_waits_so

pub returns-clause-between : goal.returns-clause-between
returns-clause-between c = waiting_is_stalled

pub returns-clause-ends : goal.returns-clause-ends
returns-clause-ends c = index_ends_so
