use Rattle.gos_expand.proofs.KeptLemmas.{all_paths}
use Rattle.gos_expand.proofs.RunLemmas.{laid_makes_lists}
use Rattle.gos_expand.proofs.laws.cycles_are_lists.Goals as goal

pub returns : goal.returns
returns c = laid_makes_lists all_paths
