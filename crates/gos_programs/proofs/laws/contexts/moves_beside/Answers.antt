use Rattle.gos_programs.proofs.contexts.RenamedLemmas.{acts_beside}
use Rattle.gos_programs.proofs.contexts.BesideLemmas.{move_beside, move_within, moves_within, runs_within, whole_runs_within, waits_beside, waits_beside_within}
use Rattle.gos_programs.proofs.laws.contexts.moves_beside.Goals as goal

pub returns-clause-acts : goal.returns-clause-acts
returns-clause-acts c = acts_beside

pub returns-clause-one : goal.returns-clause-one
returns-clause-one c = move_beside

pub returns-clause-within : goal.returns-clause-within
returns-clause-within c = move_within

pub returns-clause-all_within : goal.returns-clause-all_within
returns-clause-all_within c = moves_within

pub returns-clause-runs_within : goal.returns-clause-runs_within
returns-clause-runs_within c = runs_within

pub returns-clause-whole_runs : goal.returns-clause-whole_runs
returns-clause-whole_runs c = whole_runs_within

pub returns-clause-waits : goal.returns-clause-waits
returns-clause-waits c = waits_beside

pub returns-clause-waits_within : goal.returns-clause-waits_within
returns-clause-waits_within c = waits_beside_within
