use Rattle.gos_sharing.proofs.cores.RegularLemmas.{clear_is_regular, still_by_step}
use Rattle.gos_sharing.proofs.laws.cores.stillness.Goals as goal

pub returns-clause-regular : goal.returns-clause-regular
returns-clause-regular c = clear_is_regular

pub returns-clause-step : goal.returns-clause-step
returns-clause-step c = still_by_step
