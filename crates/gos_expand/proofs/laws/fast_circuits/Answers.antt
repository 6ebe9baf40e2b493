use Rattle.gos_expand.proofs.FastRiseLemmas.{followers_rise}
use Rattle.gos_expand.proofs.FastLemmas.{fast_accepted, fast_small, fast_makes_lists, fast_stays_silent, fast_is_one}
use Rattle.gos_expand.proofs.laws.fast_circuits.Goals as goal

pub returns-clause-rise : goal.returns-clause-rise
returns-clause-rise c = followers_rise

pub returns-clause-accepted : goal.returns-clause-accepted
returns-clause-accepted c = fast_accepted

pub returns-clause-few : goal.returns-clause-few
returns-clause-few c = fast_small

pub returns-clause-lists : goal.returns-clause-lists
returns-clause-lists c = fast_makes_lists

pub returns-clause-silent : goal.returns-clause-silent
returns-clause-silent c = fast_stays_silent

pub returns-clause-one : goal.returns-clause-one
returns-clause-one c = fast_is_one
