use Rattle.gos_programs.proofs.variables.WaitLemmas.{sources_wait, none_waits, zero_none, unfoldings_keep, waits_counted}
use Rattle.gos_programs.proofs.laws.variables.waits_at_ports.Goals as goal

pub returns : goal.returns
returns c = record { sources = sources_wait; zero = none_waits; none = zero_none; unfoldings = unfoldings_keep; counted = waits_counted }
