use Rattle.gos_supplies.proofs.unfoldings.SmallSuitLemmas.{skip_suits, number_suits_not}
use Rattle.gos_supplies.proofs.laws.unfoldings.small_suits.Goals as goal

pub returns-clause-skip : goal.returns-clause-skip
returns-clause-skip c = skip_suits

pub returns-clause-number : goal.returns-clause-number
returns-clause-number c = number_suits_not
