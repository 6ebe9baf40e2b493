use Rattle.gos_sharing.proofs.ground_types.SmallLemmas.{named_is_joined, only_read_is_none, only_written_is_none}
use Rattle.gos_sharing.proofs.laws.ground_types.small_joints.Goals as goal

pub returns-clause-named : goal.returns-clause-named
returns-clause-named c = named_is_joined

pub returns-clause-read : goal.returns-clause-read
returns-clause-read c = only_read_is_none

pub returns-clause-written : goal.returns-clause-written
returns-clause-written c = only_written_is_none
