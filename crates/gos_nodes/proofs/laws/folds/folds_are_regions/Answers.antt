use Rattle.gos_nodes.proofs.folds.RegionLemmas.{folded_is_region, folded_joint}
use Rattle.gos_nodes.proofs.laws.folds.folds_are_regions.Goals as goal

pub returns-clause-region : goal.returns-clause-region
returns-clause-region c = folded_is_region

pub returns-clause-joint : goal.returns-clause-joint
returns-clause-joint c = folded_joint
