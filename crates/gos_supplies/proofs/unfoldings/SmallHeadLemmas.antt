-- Small heads.
use Rattle.std.specs.Prelude.{[]}
use Rattle.std.proofs.Common.{refl, inl, inr}
use Rattle.gos_types.specs.Types.{Com}
use Rattle.gos_types.proofs.ListLemmas.{none_in_empty}
use Rattle.gos_model.specs.Terms.{Skip, Bound}
use Rattle.gos_model.specs.Typing.{Typed}
use Rattle.gos_plan.specs.SmallPlans.{skip_plan}
use Rattle.gos_realises.proofs.realises.SkipLemmas.{skip_is_realised}
use Rattle.gos_supplies.specs.unfoldings.SmallHeads.{same, same_of_skip, ArgumentUnfolds, BelowUnfolds, FunctionIsNoHead, InsideIsNoHead, UnfoldedIsRealised}
use Rattle.gos_supplies.proofs.unfoldings.HeadLemmas.{head_is_realised}

pub argument_unfolds : ArgumentUnfolds
argument_unfolds = inl (Com, Bound 0, refl, refl)

pub below_unfolds : BelowUnfolds
below_unfolds = inr (same, refl, inl (Skip, refl))

pub function_is_no_head : FunctionIsNoHead
function_is_no_head n (inl h) = h
function_is_no_head n (inr h) = h

pub inside_is_no_head : InsideIsNoHead
inside_is_no_head n (inl h) = h
inside_is_no_head n (inr h) = h

-- `skip` has nothing that the function could share
typed_use : Typed [] [] same_of_skip Com
typed_use = (Com, (Com, refl, refl), refl, λ x has other. none_in_empty x has)

pub unfolded_is_realised : UnfoldedIsRealised
unfolded_is_realised = head_is_realised Com skip_plan same_of_skip Skip argument_unfolds typed_use skip_is_realised
