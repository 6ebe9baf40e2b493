use Rattle.gos_joining.proofs.renumbered.OpenLemmas.{renumbered_is_open}
use Rattle.gos_joining.proofs.laws.renumbered.open_renumberings.Goals as goal

pub returns : goal.returns
returns c = renumbered_is_open
