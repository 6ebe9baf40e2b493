use Rattle.gos_programs.proofs.contexts.PlacedLemmas.{bodies_placed}
use Rattle.gos_programs.proofs.contexts.LocalLemmas.{other_moves, read_asked, write_answered, unfoldings_before, read_answered, write_asked}
use Rattle.gos_programs.proofs.laws.contexts.local_variables.Goals as goal

pub returns-clause-others : goal.returns-clause-others
returns-clause-others c = other_moves

pub returns-clause-read_asked : goal.returns-clause-read_asked
returns-clause-read_asked c = read_asked

pub returns-clause-read_answered : goal.returns-clause-read_answered
returns-clause-read_answered c = read_answered

pub returns-clause-write_asked : goal.returns-clause-write_asked
returns-clause-write_asked c = write_asked

pub returns-clause-write_answered : goal.returns-clause-write_answered
returns-clause-write_answered c = write_answered

pub returns-clause-before : goal.returns-clause-before
returns-clause-before c = unfoldings_before

pub returns-clause-bodies : goal.returns-clause-bodies
returns-clause-bodies c = bodies_placed
