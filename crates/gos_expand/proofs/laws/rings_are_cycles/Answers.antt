use Rattle.gos_expand.proofs.KeptLemmas.{all_paths}
use Rattle.gos_expand.proofs.RunLemmas.{rings_cycles}
use Rattle.gos_expand.proofs.laws.rings_are_cycles.Goals as goal

pub returns : goal.returns
returns c = rings_cycles all_paths
