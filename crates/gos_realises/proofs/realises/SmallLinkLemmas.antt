-- Small wirings whose links fit or do not, and a small plan that is slim.
use Rattle.std.specs.Prelude.{◌≡◌}
use Rattle.std.proofs.Common.{refl, sym, ◌∙◌, ap, arith, inl}
use Rattle.gos_types.specs.Types.{Com}
use Rattle.gos_plan.specs.Kinds.{Contact, asks, serves, turned_contact}
use Rattle.gos_plan.specs.Plans.{ResultEnd}
use Rattle.gos_plan.specs.Joining.{place}
use Rattle.gos_plan.specs.SmallPlans.{skip_plan, same_plan}
use Rattle.gos_realises.specs.realises.SmallLinks.{SameFits, NumberDoesNotFit, argument_link, TwiceDoesNotFit, PartDoesNotFit, NowhereDoesNotFit, SkipIsSlim, WeightIsNeeded}
use Rattle.gos_realises.proofs.realises.FittingLemmas.{applied_fits}
use Rattle.gos_realises.proofs.realises.SkipLemmas.{skip_is_realised}

pub same_fits : SameFits
same_fits = applied_fits Com Com same_plan skip_plan (((0, 0, refl, refl), refl, refl), tt) skip_is_realised.suits.right refl refl

pub number_does_not_fit : NumberDoesNotFit
number_does_not_fit fit =
    let (apart, (c, d, at_one, at_other, ends)) = fit.each 0 argument_link refl in
    let one : serves 0 0 ≡ c = cc at_one in
    let other : asks 0 8 ≡ d = cc at_other in
    let bits : 8 ≡ 0 = ap (λ (x : Contact). x.answer_bits) (other ∙ (ends ∙ ap turned_contact (sym one))) in
    omega (arith, bits)

pub twice_does_not_fit : TwiceDoesNotFit
twice_does_not_fit fit =
    let same : 0 ≡ 1 = fit.once 0 1 argument_link argument_link (place 0 (ResultEnd 0)) refl refl (inl refl) (inl refl) in
    omega (arith, same)

pub part_does_not_fit : PartDoesNotFit
part_does_not_fit fit =
    let (apart, (c, d, at_one, at_other, ends)) = fit.each 0 _ refl in
    cc ends.1

pub nowhere_does_not_fit : NowhereDoesNotFit
nowhere_does_not_fit fit =
    let (apart, (c, d, at_one, at_other, ends)) = fit.each 0 _ refl in
    cc at_other

pub skip_is_slim : SkipIsSlim
skip_is_slim = record { joints = omega arith; ends = omega arith; imports = omega arith }

pub weight_is_needed : WeightIsNeeded
weight_is_needed slim = let none = slim.joints in omega (arith, none)
