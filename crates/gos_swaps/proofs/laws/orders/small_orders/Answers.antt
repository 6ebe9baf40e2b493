use Rattle.gos_swaps.proofs.orders.SmallLemmas.{first_takes_zero, stale_names_tell_order, shared_names_tell_order}
use Rattle.gos_swaps.proofs.laws.orders.small_orders.Goals as goal

pub returns-clause-names : goal.returns-clause-names
returns-clause-names c = first_takes_zero

pub returns-clause-stale : goal.returns-clause-stale
returns-clause-stale c = stale_names_tell_order

pub returns-clause-shared : goal.returns-clause-shared
returns-clause-shared c = shared_names_tell_order
