use Rattle.gos_model.proofs.ArrayPortLemmas.{ground_ports_keep, ground_labels}
use Rattle.gos_model.proofs.laws.ground_ports.Goals as goal

pub returns-clause-keep : goal.returns-clause-keep
returns-clause-keep c = ground_ports_keep

pub returns-clause-labels : goal.returns-clause-labels
returns-clause-labels c = ground_labels
