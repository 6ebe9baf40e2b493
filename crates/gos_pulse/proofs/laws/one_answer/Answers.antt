use Rattle.gos_pulse.proofs.OneFileLemmas.{one_file, not_refused, one_fault}
use Rattle.gos_pulse.proofs.OneRunLemmas.{one_run, not_broken, breaks_once}
use Rattle.gos_pulse.proofs.OneTraceLemmas.{one_trace}
use Rattle.gos_pulse.proofs.laws.one_answer.Goals as goal

pub returns-clause-file : goal.returns-clause-file
returns-clause-file c = λ net text accepted. one_file net accepted text

pub returns-clause-read : goal.returns-clause-read
returns-clause-read c = λ net text accepted. not_refused net accepted text

pub returns-clause-fault : goal.returns-clause-fault
returns-clause-fault c = λ net text accepted. one_fault net accepted text

pub returns-clause-run : goal.returns-clause-run
returns-clause-run c = λ net cycles file accepted. one_run net accepted file cycles

pub returns-clause-trace : goal.returns-clause-trace
returns-clause-trace c = λ net cycles file accepted. one_trace net accepted cycles file

pub returns-clause-driven : goal.returns-clause-driven
returns-clause-driven c = λ net cycles file accepted. not_broken net accepted file cycles

pub returns-clause-broken : goal.returns-clause-broken
returns-clause-broken c = λ net cycles file accepted. breaks_once net accepted file cycles
