use Rattle.gos_compile.proofs.SmallPlanLemmas.{skip_is_planned, same_is_planned, array_is_planned, other_length_is_not_planned, both_is_planned, turned_is_not_planned, shell_is_not_planned}
use Rattle.gos_compile.proofs.laws.small_plans.Goals as goal

pub returns-clause-skip : goal.returns-clause-skip
returns-clause-skip c = skip_is_planned

pub returns-clause-same : goal.returns-clause-same
returns-clause-same c = same_is_planned

pub returns-clause-array : goal.returns-clause-array
returns-clause-array c = array_is_planned

pub returns-clause-other_length : goal.returns-clause-other_length
returns-clause-other_length c = other_length_is_not_planned

pub returns-clause-both : goal.returns-clause-both
returns-clause-both c = both_is_planned

pub returns-clause-turned : goal.returns-clause-turned
returns-clause-turned c = turned_is_not_planned

pub returns-clause-shell : goal.returns-clause-shell
returns-clause-shell c = shell_is_not_planned
