use Rattle.gos_programs.proofs.contexts.WideningLemmas.{sources_known, runs_known, move_widens, moves_widen, move_narrows, waits_widely}
use Rattle.gos_programs.proofs.laws.contexts.moves_of_more_imports.Goals as goal

pub returns-clause-sources : goal.returns-clause-sources
returns-clause-sources c = sources_known

pub returns-clause-runs : goal.returns-clause-runs
returns-clause-runs c = runs_known

pub returns-clause-one : goal.returns-clause-one
returns-clause-one c = move_widens

pub returns-clause-all : goal.returns-clause-all
returns-clause-all c = moves_widen

pub returns-clause-back : goal.returns-clause-back
returns-clause-back c = move_narrows

pub returns-clause-waits : goal.returns-clause-waits
returns-clause-waits c = waits_widely
