use Rattle.gos_swaps.proofs.heights.HeightLemmas.{putting_adds_so, unfolding_lowers, unfolding_under_lowers}
use Rattle.gos_swaps.proofs.laws.heights.unfolding_lowers.Goals as goal

pub returns-clause-putting : goal.returns-clause-putting
returns-clause-putting c = putting_adds_so

pub returns-clause-here : goal.returns-clause-here
returns-clause-here c = unfolding_lowers

pub returns-clause-under : goal.returns-clause-under
returns-clause-under c = unfolding_under_lowers
