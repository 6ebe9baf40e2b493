use Rattle.gos_sharing.proofs.pair_types.PassingLemmas.{any_passing_is_realised}
use Rattle.gos_sharing.proofs.laws.pair_types.passing.Goals as goal

pub returns : goal.returns
returns c = any_passing_is_realised c.cores.ensures.realised c.sides.ensures c.order.ensures.ground c.ground.ensures.buffered
