use Rattle.gos_expand.proofs.KeptLemmas.{all_paths}
use Rattle.gos_expand.proofs.RunLemmas.{circuit_makes_lists}
use Rattle.gos_expand.proofs.SilentRunLemmas.{circuit_stays_silent}
use Rattle.gos_expand.proofs.laws.circuits_make_lists.Goals as goal

pub returns-clause-lists : goal.returns-clause-lists
returns-clause-lists c = circuit_makes_lists all_paths

pub returns-clause-silent : goal.returns-clause-silent
returns-clause-silent c = circuit_stays_silent all_paths
