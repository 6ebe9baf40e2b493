use Rattle.gos_swaps.proofs.orders.OrderLemmas.{either_order}
use Rattle.gos_swaps.proofs.orders.OneLemmas.{one_doing, order_does_not_tell}
use Rattle.gos_swaps.proofs.orders.MoveLemmas.{moves_either_order}
use Rattle.gos_swaps.proofs.laws.orders.either_order.Goals as goal

pub returns-clause-doings : goal.returns-clause-doings
returns-clause-doings c = either_order

pub returns-clause-moves : goal.returns-clause-moves
returns-clause-moves c = moves_either_order

pub returns-clause-one : goal.returns-clause-one
returns-clause-one c = one_doing

pub returns-clause-ends : goal.returns-clause-ends
returns-clause-ends c = order_does_not_tell
