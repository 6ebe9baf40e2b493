use Rattle.gos_programs.proofs.variables.VariableLemmas.{placed_moves_back, placed_waits}
use Rattle.gos_programs.proofs.laws.variables.placed_moves.Goals as goal

pub returns : goal.returns
returns c = record { back = placed_moves_back; waits = placed_waits }
