use Rattle.gos_programs.proofs.results.SmallLemmas.{writes_fit, no_location, waits_have_types, accesses_have_types, sharing_is_not_asked, one_bit_fits, some_results}
use Rattle.gos_programs.proofs.laws.results.small_results.Goals as goal

pub returns-clause-writes : goal.returns-clause-writes
returns-clause-writes c = writes_fit

pub returns-clause-nowhere : goal.returns-clause-nowhere
returns-clause-nowhere c = no_location

pub returns-clause-waits : goal.returns-clause-waits
returns-clause-waits c = waits_have_types

pub returns-clause-accesses : goal.returns-clause-accesses
returns-clause-accesses c = accesses_have_types

pub returns-clause-sharing : goal.returns-clause-sharing
returns-clause-sharing c = sharing_is_not_asked

pub returns-clause-fits : goal.returns-clause-fits
returns-clause-fits c = one_bit_fits

pub returns-clause-results : goal.returns-clause-results
returns-clause-results c = some_results
