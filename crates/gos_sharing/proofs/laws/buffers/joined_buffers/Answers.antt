use Rattle.gos_sharing.proofs.buffers.JoinedBufferLemmas.{buffered_is_joined}
use Rattle.gos_sharing.proofs.laws.buffers.joined_buffers.Goals as goal

pub returns : goal.returns
returns c = buffered_is_joined
