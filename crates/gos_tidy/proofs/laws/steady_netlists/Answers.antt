use Rattle.gos_tidy.proofs.SmallSteadyLemmas.{loop_steadied, held_not_steadied, one_not_steadied, end_not_steadied}
use Rattle.gos_tidy.proofs.laws.steady_netlists.Goals as goal

pub returns-clause-looped : goal.returns-clause-looped
returns-clause-looped c = loop_steadied

pub returns-clause-held : goal.returns-clause-held
returns-clause-held c = held_not_steadied

pub returns-clause-one : goal.returns-clause-one
returns-clause-one c = one_not_steadied

pub returns-clause-end : goal.returns-clause-end
returns-clause-end c = end_not_steadied
