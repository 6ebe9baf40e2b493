use Rattle.gos_sharing.proofs.cores.RestLemmas.{beside_is_core}
use Rattle.gos_sharing.proofs.laws.cores.beside.Goals as goal

pub returns : goal.returns
returns c = beside_is_core
