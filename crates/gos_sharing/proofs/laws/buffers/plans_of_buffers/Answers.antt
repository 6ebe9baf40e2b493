use Rattle.gos_sharing.proofs.buffers.BufferedLemmas.{buffered_is_buffer}
use Rattle.gos_sharing.proofs.buffers.VariableLemmas.{ground_is_buffered}
use Rattle.gos_sharing.proofs.laws.buffers.plans_of_buffers.Goals as goal

pub returns-clause-buffer : goal.returns-clause-buffer
returns-clause-buffer c = buffered_is_buffer

pub returns-clause-realises : goal.returns-clause-realises
returns-clause-realises c = ground_is_buffered
