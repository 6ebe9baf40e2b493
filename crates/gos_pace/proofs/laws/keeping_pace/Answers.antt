use Rattle.gos_pace.proofs.SmallPaceLemmas.{skip_keeps_pace}
use Rattle.gos_pace.proofs.SilentLemmas.{silent_lags}
use Rattle.gos_pace.proofs.laws.keeping_pace.Goals as goal

pub returns-clause-keeps : goal.returns-clause-keeps
returns-clause-keeps c = skip_keeps_pace

pub returns-clause-silent : goal.returns-clause-silent
returns-clause-silent c = silent_lags
