use Rattle.gos_joining.proofs.renumbered.RewireLemmas.{rewired_is_renumbered}
use Rattle.gos_joining.proofs.laws.renumbered.rewirings.Goals as goal

pub returns : goal.returns
returns c = rewired_is_renumbered
