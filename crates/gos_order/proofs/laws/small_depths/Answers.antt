use Rattle.gos_order.proofs.SmallDepthLemmas.{shorter_is_none, depths_are_fixed, rings_have_none, depths_are_longest}
use Rattle.gos_order.proofs.laws.small_depths.Goals as goal

pub returns-clause-shorter : goal.returns-clause-shorter
returns-clause-shorter c = shorter_is_none

pub returns-clause-fixed : goal.returns-clause-fixed
returns-clause-fixed c = depths_are_fixed

pub returns-clause-rings : goal.returns-clause-rings
returns-clause-rings c = rings_have_none

pub returns-clause-longest : goal.returns-clause-longest
returns-clause-longest c = depths_are_longest
