use Rattle.gos_supplies.proofs.turns.MakeLemmas.{name_plan_is_there}
use Rattle.gos_supplies.proofs.turns.NameLemmas.{name_is_regular}
use Rattle.gos_supplies.proofs.laws.turns.names.Goals as goal

pub returns-clause-regular : goal.returns-clause-regular
returns-clause-regular c = name_is_regular

pub returns-clause-there : goal.returns-clause-there
returns-clause-there c = name_plan_is_there
