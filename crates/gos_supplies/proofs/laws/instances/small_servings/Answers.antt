use Rattle.gos_supplies.proofs.instances.SmallServingLemmas.{small_serving_is, small_serving_fits, skip_serves_not, function_is_applied, other_name_stays, small_tree_is, skip_is_no_giver, one_name_twice}
use Rattle.gos_supplies.proofs.laws.instances.small_servings.Goals as goal

pub returns-clause-links : goal.returns-clause-links
returns-clause-links c = small_serving_is

pub returns-clause-fits : goal.returns-clause-fits
returns-clause-fits c = small_serving_fits

pub returns-clause-unfit : goal.returns-clause-unfit
returns-clause-unfit c = skip_serves_not

pub returns-clause-applied : goal.returns-clause-applied
returns-clause-applied c = function_is_applied

pub returns-clause-stays : goal.returns-clause-stays
returns-clause-stays c = other_name_stays

pub returns-clause-tree : goal.returns-clause-tree
returns-clause-tree c = small_tree_is

pub returns-clause-no_giver : goal.returns-clause-no_giver
returns-clause-no_giver c = skip_is_no_giver

pub returns-clause-twice : goal.returns-clause-twice
returns-clause-twice c = one_name_twice
