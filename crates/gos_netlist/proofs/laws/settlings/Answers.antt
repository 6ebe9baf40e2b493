use Rattle.gos_netlist.proofs.SettlingLemmas.{acyclic_settles, acyclic_settles_once}
use Rattle.gos_netlist.proofs.laws.settlings.Goals as goal

pub returns-clause-some : goal.returns-clause-some
returns-clause-some c = acyclic_settles

pub returns-clause-one : goal.returns-clause-one
returns-clause-one c = acyclic_settles_once
