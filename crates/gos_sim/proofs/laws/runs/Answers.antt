use Rattle.gos_sim.proofs.RunLemmas.{begins_run, goes_on_running}
use Rattle.gos_sim.proofs.laws.runs.Goals as goal

pub returns-clause-begins : goal.returns-clause-begins
returns-clause-begins c = begins_run

pub returns-clause-goes_on : goal.returns-clause-goes_on
returns-clause-goes_on c = goes_on_running
