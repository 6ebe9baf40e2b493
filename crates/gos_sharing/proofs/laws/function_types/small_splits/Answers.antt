use Rattle.gos_sharing.proofs.function_types.SmallLemmas.{same_is_split, whole_is_no_split}
use Rattle.gos_sharing.proofs.laws.function_types.small_splits.Goals as goal

pub returns-clause-same : goal.returns-clause-same
returns-clause-same c = same_is_split c.small_plans.ensures.first

pub returns-clause-whole : goal.returns-clause-whole
returns-clause-whole c = whole_is_no_split
