use Rattle.gos_nodes.proofs.assign_part.TableLemmas.{assigns_do, writes_move, writes_show}
use Rattle.gos_nodes.proofs.laws.assign_part.tables_are_right.Goals as goal

pub returns-clause-fires : goal.returns-clause-fires
returns-clause-fires c = assigns_do

pub returns-clause-moves : goal.returns-clause-moves
returns-clause-moves c = writes_move

pub returns-clause-shows : goal.returns-clause-shows
returns-clause-shows c = writes_show
