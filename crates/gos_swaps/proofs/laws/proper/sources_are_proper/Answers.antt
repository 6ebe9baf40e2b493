use Rattle.gos_swaps.proofs.proper.ProperLemmas.{sources_are_apart, sources_are_closed}
use Rattle.gos_swaps.proofs.laws.proper.sources_are_proper.Goals as goal

pub returns-clause-apart : goal.returns-clause-apart
returns-clause-apart c = sources_are_apart

pub returns-clause-closed : goal.returns-clause-closed
returns-clause-closed c = sources_are_closed
