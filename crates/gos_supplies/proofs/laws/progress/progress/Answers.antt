use Rattle.gos_supplies.proofs.progress.ProgressLemmas.{programs_begin, runs_go_on, unasked_runs_go_on}
use Rattle.gos_supplies.proofs.laws.progress.progress.Goals as goal

pub returns-clause-begin : goal.returns-clause-begin
returns-clause-begin c = programs_begin

pub returns-clause-runs : goal.returns-clause-runs
returns-clause-runs c = runs_go_on

pub returns-clause-unasked : goal.returns-clause-unasked
returns-clause-unasked c = unasked_runs_go_on
