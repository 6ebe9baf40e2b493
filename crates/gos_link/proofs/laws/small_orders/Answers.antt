use Rattle.gos_link.proofs.SmallOrderLemmas.{first_comes_first, second_is_not_first}
use Rattle.gos_link.proofs.laws.small_orders.Goals as goal

pub returns-clause-first : goal.returns-clause-first
returns-clause-first c = first_comes_first

pub returns-clause-second : goal.returns-clause-second
returns-clause-second c = second_is_not_first
