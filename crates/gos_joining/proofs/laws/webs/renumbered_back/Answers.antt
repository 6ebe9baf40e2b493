use Rattle.gos_joining.proofs.webs.IdleLemmas.{renumbered_back}
use Rattle.gos_joining.proofs.laws.webs.renumbered_back.Goals as goal

pub returns : goal.returns
returns c = renumbered_back
