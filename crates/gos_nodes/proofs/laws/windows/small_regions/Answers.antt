use Rattle.gos_nodes.proofs.windows.SmallLoyalLemmas.{call_is_loyal}
use Rattle.gos_nodes.proofs.windows.SmallRegionLemmas.{call_is_region, wrong_side_is_none}
use Rattle.gos_nodes.proofs.laws.windows.small_regions.Goals as goal

pub returns-clause-region : goal.returns-clause-region
returns-clause-region c = call_is_region

pub returns-clause-wrong : goal.returns-clause-wrong
returns-clause-wrong c = wrong_side_is_none

pub returns-clause-loyal : goal.returns-clause-loyal
returns-clause-loyal c = call_is_loyal
