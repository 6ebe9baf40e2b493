use Rattle.gos_netlist.proofs.NetLemmas.{latch_runs, latch_text, looped_gates}
use Rattle.gos_netlist.proofs.laws.small_nets.Goals as goal

pub returns-clause-latch : goal.returns-clause-latch
returns-clause-latch c = latch_runs

pub returns-clause-text : goal.returns-clause-text
returns-clause-text c = latch_text

pub returns-clause-ring : goal.returns-clause-ring
returns-clause-ring c = looped_gates
