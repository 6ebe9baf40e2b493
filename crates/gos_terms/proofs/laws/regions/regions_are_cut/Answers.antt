use Rattle.gos_terms.proofs.regions.CutLemmas.{region_is_cut}
use Rattle.gos_terms.proofs.laws.regions.regions_are_cut.Goals as goal

pub returns : goal.returns
returns c = region_is_cut
