use Rattle.gos_supplies.proofs.ports.PortLemmas.{open_is_realised, open_is_done}
use Rattle.gos_supplies.proofs.laws.ports.ports.Goals as goal

pub returns-clause-realised : goal.returns-clause-realised
returns-clause-realised c = open_is_realised c.names.ensures

pub returns-clause-done : goal.returns-clause-done
returns-clause-done c = open_is_done (open_is_realised c.names.ensures)
