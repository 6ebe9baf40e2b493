use Rattle.gos_nodes.proofs.windows.ClosingLemmas as closing
use Rattle.gos_nodes.proofs.laws.windows.idle_is_closed.Goals as goal

pub returns-clause-ground : goal.returns-clause-ground
returns-clause-ground c = closing.idle_is_closed

pub returns-clause-any : goal.returns-clause-any
returns-clause-any c = closing.open_idle_is_closed
