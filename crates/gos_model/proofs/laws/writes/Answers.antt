use Rattle.gos_model.proofs.StoreLemmas.{writes_store, reads_behind_write, absent_is_not_written, absent_is_not_read}
use Rattle.gos_model.proofs.laws.writes.Goals as goal

pub returns-clause-left : goal.returns-clause-left
returns-clause-left c = writes_store

pub returns-clause-read : goal.returns-clause-read
returns-clause-read c = reads_behind_write

pub returns-clause-absent : goal.returns-clause-absent
returns-clause-absent c = absent_is_not_written

pub returns-clause-unread : goal.returns-clause-unread
returns-clause-unread c = absent_is_not_read
