use Rattle.gos_joining.proofs.weaving.SmallLemmas.{numbered_is_thin, numbered_is_plain, forked_is_not_thin, forked_is_not_plain, forked_has_no_plan}
use Rattle.gos_joining.proofs.laws.weaving.small_webs_have_plans.Goals as goal

pub returns-clause-thin : goal.returns-clause-thin
returns-clause-thin c = numbered_is_thin

pub returns-clause-plain : goal.returns-clause-plain
returns-clause-plain c = numbered_is_plain

pub returns-clause-not_thin : goal.returns-clause-not_thin
returns-clause-not_thin c = forked_is_not_thin

pub returns-clause-not_plain : goal.returns-clause-not_plain
returns-clause-not_plain c = forked_is_not_plain

pub returns-clause-no_plan : goal.returns-clause-no_plan
returns-clause-no_plan c = forked_has_no_plan
