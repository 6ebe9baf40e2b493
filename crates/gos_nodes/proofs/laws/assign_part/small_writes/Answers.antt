use Rattle.gos_nodes.proofs.assign_part.SmallLemmas.{one_is_written, lit_does_not_write, seven_bits_do_not_fit, unjoined_does_not_write}
use Rattle.gos_nodes.proofs.laws.assign_part.small_writes.Goals as goal

pub returns-clause-written : goal.returns-clause-written
returns-clause-written c = one_is_written

pub returns-clause-other : goal.returns-clause-other
returns-clause-other c = lit_does_not_write

pub returns-clause-width : goal.returns-clause-width
returns-clause-width c = seven_bits_do_not_fit

pub returns-clause-unjoined : goal.returns-clause-unjoined
returns-clause-unjoined c = unjoined_does_not_write
