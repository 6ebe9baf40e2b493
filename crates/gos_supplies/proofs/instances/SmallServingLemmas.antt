-- Small servings, met and missed.
use Rattle.std.proofs.Common.{refl}
use Rattle.gos_plan.specs.Plans.{ImportEnd, ResultEnd}
use Rattle.gos_plan.specs.SmallPlans.{same_plan}
use Rattle.gos_realises.specs.realises.Wirings.{link}
use Rattle.gos_supplies.specs.instances.SmallServings.{called, user_plan, SmallServingIs, SmallServingFits, SkipServesNot, FunctionIsApplied, OtherNameStays, SmallTreeIs, SkipIsNoGiver, OneNameTwice}
use Rattle.gos_supplies.proofs.instances.FitLemmas.{serving_fits}

pub small_serving_is : SmallServingIs
small_serving_is = refl

pub small_serving_fits : SmallServingFits
small_serving_fits =
    serving_fits 0 called user_plan same_plan (((0, 0, refl, refl), refl, refl), (((0, 0, refl, refl), refl, refl), tt)) (((0, 0, refl, refl), refl, refl), tt)
    refl refl

pub skip_serves_not : SkipServesNot
skip_serves_not fits =
    let (apart, there) = fits.each 1 (link 0 (ImportEnd 0 1) 1 (ResultEnd 1)) refl in
    let (c, d, one, other, same) = there in cc other

pub function_is_applied : FunctionIsApplied
function_is_applied = refl

pub other_name_stays : OtherNameStays
other_name_stays = refl

pub small_tree_is : SmallTreeIs
small_tree_is = (refl, refl)

pub skip_is_no_giver : SkipIsNoGiver
skip_is_no_giver (of_user, of_skip, lefts, types) = cc types

pub one_name_twice : OneNameTwice
one_name_twice = (refl, refl)
