use Rattle.gos_plan.proofs.TwoFormatLemmas.{one_reads_as_two, one_has_no_arrays}
use Rattle.gos_plan.proofs.laws.two_formats.Goals as goal

pub returns-clause-reads : goal.returns-clause-reads
returns-clause-reads c = one_reads_as_two

pub returns-clause-arrays : goal.returns-clause-arrays
returns-clause-arrays c = one_has_no_arrays
