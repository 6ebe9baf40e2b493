use Rattle.gos_sharing.proofs.buffers.LoosePartLemmas.{loose_part_is_free}
use Rattle.gos_sharing.proofs.laws.buffers.loose_parts.Goals as goal

pub returns : goal.returns
returns c = loose_part_is_free
