use Rattle.gos_types.proofs.PortLemmas.{some_ports, others_are_no_ports, array_shakes}
use Rattle.gos_types.proofs.laws.ports.Goals as goal

pub returns-clause-some : goal.returns-clause-some
returns-clause-some c = some_ports

pub returns-clause-others : goal.returns-clause-others
returns-clause-others c = others_are_no_ports

pub returns-clause-shakes : goal.returns-clause-shakes
returns-clause-shakes c = array_shakes
