use Rattle.gos_programs.proofs.contexts.StandingLemmas.{runs_stay}
use Rattle.gos_programs.proofs.laws.contexts.locations_of_runs.Goals as goal

pub returns : goal.returns
returns c = runs_stay
