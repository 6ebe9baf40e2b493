use Rattle.gos_sharing.proofs.buffers.RegularLemmas.{buffered_is_regular}
use Rattle.gos_sharing.proofs.laws.buffers.order.Goals as goal

pub returns : goal.returns
returns c = buffered_is_regular
