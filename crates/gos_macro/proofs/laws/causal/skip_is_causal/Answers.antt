use Rattle.gos_macro.proofs.laws.causal.skip_is_causal.Goals as goal
use Rattle.gos_macro.proofs.causal.SmallLemmas as small

pub returns-clause-fires : goal.returns-clause-fires
returns-clause-fires c = small.skip_fires_partly

pub returns-clause-rests : goal.returns-clause-rests
returns-clause-rests c = small.skip_fires_by_none

pub returns-clause-causal : goal.returns-clause-causal
returns-clause-causal c = small.skip_is_causal

pub returns-clause-shows : goal.returns-clause-shows
returns-clause-shows c = small.skip_shows_its_answer

pub returns-clause-two : goal.returns-clause-two
returns-clause-two c = small.two_are_not_shown

pub returns-clause-needed : goal.returns-clause-needed
returns-clause-needed c = small.demand_is_needed
