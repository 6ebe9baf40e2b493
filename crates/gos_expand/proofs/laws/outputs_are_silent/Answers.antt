use Rattle.gos_expand.proofs.KeptLemmas.{all_paths}
use Rattle.gos_expand.proofs.SilentRunLemmas.{laid_stays_silent}
use Rattle.gos_expand.proofs.laws.outputs_are_silent.Goals as goal

pub returns : goal.returns
returns c = laid_stays_silent all_paths
