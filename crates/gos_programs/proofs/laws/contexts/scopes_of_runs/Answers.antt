use Rattle.gos_programs.proofs.contexts.ShutLemmas.{sources_are_shut}
use Rattle.gos_programs.proofs.contexts.ScopeLemmas.{moves_keep_scopes, runs_keep_scopes, ends_empty}
use Rattle.gos_programs.proofs.laws.contexts.scopes_of_runs.Goals as goal

pub returns-clause-sources : goal.returns-clause-sources
returns-clause-sources c = sources_are_shut

pub returns-clause-moves : goal.returns-clause-moves
returns-clause-moves c = moves_keep_scopes

pub returns-clause-runs : goal.returns-clause-runs
returns-clause-runs c = runs_keep_scopes

pub returns-clause-ends : goal.returns-clause-ends
returns-clause-ends c = ends_empty
