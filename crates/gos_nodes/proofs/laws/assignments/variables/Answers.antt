use Rattle.gos_nodes.proofs.assignments.LoneLemmas as lone
use Rattle.gos_nodes.proofs.assignments.WrittenLemmas as written
use Rattle.gos_nodes.proofs.laws.assignments.variables.Goals as goal

pub returns-clause-unread : goal.returns-clause-unread
returns-clause-unread c = written.unread_is_regular

pub returns-clause-joined : goal.returns-clause-joined
returns-clause-joined c = written.joined_is_lone_write

pub returns-clause-lone : goal.returns-clause-lone
returns-clause-lone c = lone.lone_write_is_session

pub returns-clause-written : goal.returns-clause-written
returns-clause-written c = written.variable_is_written
