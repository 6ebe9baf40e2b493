use Rattle.gos_nodes.proofs.assign_part.SideLemmas.{right_side_moves, right_side_waits, write_runs}
use Rattle.gos_nodes.proofs.laws.assign_part.right_sides.Goals as goal

pub returns-clause-moves : goal.returns-clause-moves
returns-clause-moves c = right_side_moves

pub returns-clause-waits : goal.returns-clause-waits
returns-clause-waits c = right_side_waits

pub returns-clause-runs : goal.returns-clause-runs
returns-clause-runs c = write_runs
