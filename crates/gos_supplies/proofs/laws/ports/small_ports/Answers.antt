use Rattle.gos_supplies.proofs.ports.GivenLemmas.{name_is_open, call_is_module, variable_is_module}
use Rattle.gos_supplies.proofs.ports.SmallLemmas.{unjoined_is_not_open}
use Rattle.gos_supplies.proofs.laws.ports.small_ports.Goals as goal

pub returns-clause-name : goal.returns-clause-name
returns-clause-name c = name_is_open

pub returns-clause-unjoined : goal.returns-clause-unjoined
returns-clause-unjoined c = unjoined_is_not_open c.ports.ensures.realised c.small_names.ensures

pub returns-clause-call : goal.returns-clause-call
returns-clause-call c = call_is_module c.small_realisers.ensures.name

pub returns-clause-variable : goal.returns-clause-variable
returns-clause-variable c = variable_is_module c.names.ensures
