use Rattle.gos_supplies.proofs.arrays.SmallAccessLemmas.{first_is_access, left_is_no_access, left_is_no_read}
use Rattle.gos_supplies.proofs.laws.arrays.small_accesses.Goals as goal

pub returns-clause-written : goal.returns-clause-written
returns-clause-written c = first_is_access

pub returns-clause-unwritten : goal.returns-clause-unwritten
returns-clause-unwritten c = left_is_no_access

pub returns-clause-unread : goal.returns-clause-unread
returns-clause-unread c = left_is_no_read
