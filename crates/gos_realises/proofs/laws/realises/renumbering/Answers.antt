use Rattle.gos_realises.proofs.realises.RenumberLemmas.{renumbering_keeps}
use Rattle.gos_realises.proofs.laws.realises.renumbering.Goals as goal

pub returns : goal.returns
returns c = renumbering_keeps
