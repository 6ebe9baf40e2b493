use Rattle.gos_supplies.proofs.literals.SmallLemmas.{five_is_realised, five_is_not_six, none_is_too_large, five_is_not_done}
use Rattle.gos_supplies.proofs.laws.literals.small_literals.Goals as goal

pub returns-clause-five : goal.returns-clause-five
returns-clause-five c = five_is_realised

pub returns-clause-six : goal.returns-clause-six
returns-clause-six c = five_is_not_six

pub returns-clause-large : goal.returns-clause-large
returns-clause-large c = none_is_too_large

pub returns-clause-done : goal.returns-clause-done
returns-clause-done c = five_is_not_done
