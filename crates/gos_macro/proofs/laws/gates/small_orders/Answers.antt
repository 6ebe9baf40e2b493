use Rattle.std.proofs.Common.{refl}
use Rattle.gos_macro.proofs.PassingShareLemmas.{second_asks_first, second_asks_last, order_is_seen}
use Rattle.gos_macro.proofs.laws.gates.small_orders.Goals as goal

pub returns-clause-ranks : goal.returns-clause-ranks
returns-clause-ranks c = refl

pub returns-clause-numbers : goal.returns-clause-numbers
returns-clause-numbers c = refl

pub returns-clause-second_first : goal.returns-clause-second_first
returns-clause-second_first c = second_asks_first

pub returns-clause-second_last : goal.returns-clause-second_last
returns-clause-second_last c = second_asks_last

pub returns-clause-seen : goal.returns-clause-seen
returns-clause-seen c = order_is_seen
