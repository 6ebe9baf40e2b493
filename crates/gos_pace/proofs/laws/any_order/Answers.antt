use Rattle.gos_pace.proofs.OrderLemmas.{one_order_is_enough}
use Rattle.gos_pace.proofs.laws.any_order.Goals as goal

pub returns : goal.returns
returns c = one_order_is_enough
