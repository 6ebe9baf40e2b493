use Rattle.gos_nodes.proofs.assignments.SmallLemmas as small
use Rattle.gos_nodes.proofs.laws.assignments.small_writes.Goals as goal

pub returns-clause-met : goal.returns-clause-met
returns-clause-met c = small.one_is_a_write

pub returns-clause-bits : goal.returns-clause-bits
returns-clause-bits c = small.seven_bits_are_none

pub returns-clause-part : goal.returns-clause-part
returns-clause-part c = small.lit_is_none

pub returns-clause-missing : goal.returns-clause-missing
returns-clause-missing c = small.stage_is_missing

pub returns-clause-unread : goal.returns-clause-unread
returns-clause-unread c = small.read_is_dropped

pub returns-clause-session : goal.returns-clause-session
returns-clause-session c = small.write_is_session

pub returns-clause-no_session : goal.returns-clause-no_session
returns-clause-no_session c = small.read_is_no_session

pub returns-clause-assigned : goal.returns-clause-assigned
returns-clause-assigned c = small.one_is_assigned

pub returns-clause-read : goal.returns-clause-read
returns-clause-read c = small.read_stage_is_none

pub returns-clause-argument : goal.returns-clause-argument
returns-clause-argument c = small.argument_is_asked

pub returns-clause-outcome : goal.returns-clause-outcome
returns-clause-outcome c = small.outcome_is_not_asked
