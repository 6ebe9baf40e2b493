-- The plan of `fun a : com . a` behind a Share.
use Rattle.std.specs.Prelude.{◌≡◌, ℕ, [], ◌∷◌, All}
use Rattle.std.proofs.Common.{refl, ap, arith, inl, inr}
use Rattle.gos_types.specs.Types.{Com, Fun}
use Rattle.gos_plan.specs.Kinds.{serves}
use Rattle.gos_plan.specs.Plans.{PartEnd, ResultEnd, Joint, IsRight}
use Rattle.gos_plan.specs.TokenBits.{LiteralFits}
use Rattle.gos_plan.specs.SmallPlans.{same_plan}
use Rattle.gos_plan.proofs.JointLemmas.{IsIn, contained, same_result}
use Rattle.gos_realises.specs.realises.Functions.{SameIsRealised}
use Rattle.gos_joining.specs.webs.Webs.{joint}
use Rattle.gos_sharing.specs.behind.SmallBehind.{shared_same, SharedIs, FirstIsBehind, FirstIsRegular, SecondIsNot, reversed_same, ReversedIsNot}
use Rattle.gos_sharing.proofs.behind.PassingLemmas.{passing_lies}
use Rattle.gos_sharing.proofs.behind.RegularLemmas.{behind_is_regular}

pub shared_is : SharedIs
shared_is = refl

same_right : IsRight same_plan
same_right = (((0, 0, refl, refl), refl, refl), tt)

pub first_is_behind : FirstIsBehind
first_is_behind = passing_lies 0 same_plan (omega arith) same_right

none_there : All LiteralFits same_plan.parts
none_there k d low = absurd (omega (arith, low))

pub first_is_regular : SameIsRealised → FirstIsRegular
first_is_regular same = behind_is_regular 0 (Fun Com Com) 0 shared_same same_plan first_is_behind none_there same.suits.regular

-- of a short list
not_among : (j a b c : Joint) → (j ≡ a → ⊥) → (j ≡ b → ⊥) → (j ≡ c → ⊥) → IsIn j (a ∷ b ∷ c ∷ []) → ⊥
not_among j a b c one two three (inl e) = one e
not_among j a b c one two three (inr (inl e)) = two e
not_among j a b c one two three (inr (inr (inl e))) = three e
not_among j a b c one two three (inr (inr (inr none))) = none

result_part : (j k h : ℕ) → ResultEnd j ≡ PartEnd k h → ⊥
result_part j k h e = cc e

part_part : (k h g : ℕ) → PartEnd k h ≡ PartEnd k g → h ≡ g
part_part k h g e = cc e

other_shake : PartEnd 0 5 ≡ PartEnd 0 3 → ⊥
other_shake e = let same = part_part 0 5 3 e in omega (arith, same)

pub second_is_not : SecondIsNot
second_is_not is =
    not_among (joint (ResultEnd 1) (PartEnd 0 5)) (joint (PartEnd 0 1) (PartEnd 0 0)) (joint (PartEnd 0 2) (ResultEnd 0)) (joint (ResultEnd 1) (PartEnd 0 3))
    (λ e. result_part 1 0 1 (ap (λ (x : Joint). x.asking) e)) (λ e. result_part 1 0 2 (ap (λ (x : Joint). x.asking) e)) (λ e. other_shake (ap (λ (x : Joint). x.serving) e))
    (contained shared_same.joints (joint (ResultEnd 1) (PartEnd 0 5)) ((is.joints (ResultEnd 1) (PartEnd 0 5)).1 (inr (1, serves 0 0, refl, refl))))

pub reversed_is_not : ReversedIsNot
reversed_is_not is =
    not_among (joint (ResultEnd 1) (PartEnd 0 3)) (joint (PartEnd 0 1) (PartEnd 0 0)) (joint (ResultEnd 0) (PartEnd 0 2)) (joint (PartEnd 0 3) (ResultEnd 1))
    (λ e. result_part 1 0 1 (ap (λ (x : Joint). x.asking) e))
    (λ e. let same = same_result 1 0 (ap (λ (x : Joint). x.asking) e) in omega (arith, same)) (λ e. result_part 1 0 3 (ap (λ (x : Joint). x.asking) e))
    (contained reversed_same.joints (joint (ResultEnd 1) (PartEnd 0 3)) ((is.joints (ResultEnd 1) (PartEnd 0 3)).1 (inr (1, serves 0 0, refl, refl))))
