use Rattle.gos_sharing.proofs.parts_of_types.MeansLemmas.{narrow_is_realised}
use Rattle.gos_sharing.proofs.laws.parts_of_types.realising.Goals as goal

pub returns : goal.returns
returns c = narrow_is_realised
