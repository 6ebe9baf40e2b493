use Rattle.gos_swaps.proofs.orders.AlikeLemmas.{alike_itself, alike_back, alike_on, alike_do_alike}
use Rattle.gos_swaps.proofs.orders.AlikeProperLemmas.{alike_stay_proper}
use Rattle.gos_swaps.proofs.laws.orders.alike_configurations.Goals as goal

pub returns-clause-itself : goal.returns-clause-itself
returns-clause-itself c = alike_itself

pub returns-clause-back : goal.returns-clause-back
returns-clause-back c = alike_back

pub returns-clause-on : goal.returns-clause-on
returns-clause-on c = alike_on

pub returns-clause-do_alike : goal.returns-clause-do_alike
returns-clause-do_alike c = alike_do_alike

pub returns-clause-proper : goal.returns-clause-proper
returns-clause-proper c = alike_stay_proper
