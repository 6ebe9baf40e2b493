use Rattle.gos_supplies.proofs.unfoldings.PairLemmas.{first_of_both, second_of_both, both_is_realised, both_is_open}
use Rattle.gos_supplies.proofs.laws.unfoldings.pairs.Goals as goal

pub returns-clause-first : goal.returns-clause-first
returns-clause-first c = first_of_both

pub returns-clause-second : goal.returns-clause-second
returns-clause-second c = second_of_both

pub returns-clause-both : goal.returns-clause-both
returns-clause-both c = both_is_realised

pub returns-clause-supplied : goal.returns-clause-supplied
returns-clause-supplied c = both_is_open
