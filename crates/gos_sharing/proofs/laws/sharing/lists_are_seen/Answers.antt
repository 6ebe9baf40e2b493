use Rattle.gos_sharing.proofs.sharing.SeenIdleLemmas.{idle_is_seen}
use Rattle.gos_sharing.proofs.sharing.SeenQuietLemmas.{quiet_is_seen}
use Rattle.gos_sharing.proofs.sharing.SeenRunLemmas.{runs_are_seen}
use Rattle.gos_sharing.proofs.laws.sharing.lists_are_seen.Goals as goal

pub returns-clause-idle : goal.returns-clause-idle
returns-clause-idle c = idle_is_seen

pub returns-clause-runs : goal.returns-clause-runs
returns-clause-runs c = runs_are_seen

pub returns-clause-quiet : goal.returns-clause-quiet
returns-clause-quiet c = quiet_is_seen
