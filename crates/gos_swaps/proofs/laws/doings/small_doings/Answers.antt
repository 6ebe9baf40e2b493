use Rattle.gos_swaps.proofs.doings.SmallLemmas.{array_takes_either}
use Rattle.gos_swaps.proofs.laws.doings.small_doings.Goals as goal

pub returns-clause-array : goal.returns-clause-array
returns-clause-array c = array_takes_either
