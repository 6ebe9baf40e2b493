use Rattle.gos_order.proofs.SmallLemmas.{same_is_ring, two_are_ring, chain_has_none, fork_has_none, rings_stay}
use Rattle.gos_order.proofs.laws.small_rings.Goals as goal

pub returns : goal.returns
returns c = record { same = same_is_ring; two = two_are_ring; chain = chain_has_none; fork = fork_has_none; more = rings_stay }
