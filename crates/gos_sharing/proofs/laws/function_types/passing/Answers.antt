use Rattle.gos_sharing.proofs.function_types.PassingLemmas.{passing_is_realised}
use Rattle.gos_sharing.proofs.laws.function_types.passing.Goals as goal

pub returns : goal.returns
returns c = passing_is_realised c.order.ensures.ground c.ground.ensures.buffered
