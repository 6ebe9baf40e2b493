use Rattle.gos_sharing.proofs.buffers.SmallBufferLemmas.{first_is_buffer, first_is_loyal, second_is_not_loyal, empty_is_unjoined, shared_is_buffered, shared_is_realised, second_is_none, both_are_none, unsourced_is_none}
use Rattle.gos_sharing.proofs.laws.buffers.small_buffers.Goals as goal

pub returns-clause-first : goal.returns-clause-first
returns-clause-first c = first_is_buffer

pub returns-clause-second : goal.returns-clause-second
returns-clause-second c = second_is_none

pub returns-clause-both : goal.returns-clause-both
returns-clause-both c = both_are_none

pub returns-clause-unsourced : goal.returns-clause-unsourced
returns-clause-unsourced c = unsourced_is_none

pub returns-clause-realised : goal.returns-clause-realised
returns-clause-realised c = shared_is_realised

pub returns-clause-shared : goal.returns-clause-shared
returns-clause-shared c = shared_is_buffered

pub returns-clause-loyal : goal.returns-clause-loyal
returns-clause-loyal c = first_is_loyal

pub returns-clause-disloyal : goal.returns-clause-disloyal
returns-clause-disloyal c = second_is_not_loyal

pub returns-clause-empty : goal.returns-clause-empty
returns-clause-empty c = empty_is_unjoined
