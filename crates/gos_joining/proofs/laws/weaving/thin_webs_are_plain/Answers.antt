use Rattle.gos_joining.proofs.weaving.ThinLemmas.{thin_is_plain}
use Rattle.gos_joining.proofs.laws.weaving.thin_webs_are_plain.Goals as goal

pub returns : goal.returns
returns c = thin_is_plain
