use Rattle.gos_supplies.proofs.arrays.FunctionLemmas.{writer_is_realised}
use Rattle.gos_supplies.proofs.arrays.WriterLemmas.{writer_writes, unjoined_does_not_write, unjoined_is_no_writer}
use Rattle.gos_supplies.proofs.laws.arrays.writers.Goals as goal

pub returns-clause-realised : goal.returns-clause-realised
returns-clause-realised c = writer_is_realised

pub returns-clause-writes : goal.returns-clause-writes
returns-clause-writes c = writer_writes

pub returns-clause-unjoined : goal.returns-clause-unjoined
returns-clause-unjoined c = unjoined_does_not_write c.one_joining.ensures c.alone.ensures.order

pub returns-clause-none : goal.returns-clause-none
returns-clause-none c = unjoined_is_no_writer
