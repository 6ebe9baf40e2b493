use Rattle.gos_swaps.proofs.proper.ProperLemmas.{runs_are_proper}
use Rattle.gos_swaps.proofs.proper.KeptLemmas.{doings_stay_proper}
use Rattle.gos_swaps.proofs.laws.proper.runs_are_proper.Goals as goal

pub returns-clause-runs : goal.returns-clause-runs
returns-clause-runs c = runs_are_proper

pub returns-clause-doings : goal.returns-clause-doings
returns-clause-doings c = doings_stay_proper
