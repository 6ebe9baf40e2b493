-- The plan of a call by way of a Share, seen through for the first caller and not for the second.
use Rattle.std.specs.Prelude.{◌≡◌, ℕ, zero, suc, ◌⊎◌, Some, Contains, slice_get}
use Rattle.std.proofs.Common.{refl, sym, ap, subst, arith, inl, inr}
use Rattle.std.proofs.lemmas.Option.{none-some, same_Some}
use Rattle.gos_types.specs.Types.{Com}
use Rattle.gos_plan.specs.Kinds.{Contact, serves, contacts_of}
use Rattle.gos_plan.specs.Plans.{End, PartEnd, ImportEnd, ResultEnd, Joint, IsRight}
use Rattle.gos_joining.specs.webs.Webs.{joint}
use Rattle.gos_sharing.specs.sharing.Sharing.{way_into, way_out_of, IsOfPart, LeadsThrough}
use Rattle.gos_sharing.specs.sharing.SmallSharing.{shared_call, plain_call, FirstIsSeen, SecondIsNot}

shared_is_right : IsRight shared_call
shared_is_right = (((0, 0, refl, refl), refl, refl), (((0, 0, refl, refl), refl, refl), tt))

plain_is_right : IsRight plain_call
plain_is_right = (((0, 0, refl, refl), refl, refl), tt)

-- the joints of the plan with the Share
result_asks : (a : End) → Contains shared_call.joints (joint a (PartEnd 0 1)) → ResultEnd 0 ≡ a
result_asks a (zero, l, e) = ap (λ (j : Joint). j.asking) e
result_asks a (suc zero, l, e) = let no : ImportEnd 0 0 ≡ PartEnd 0 1 = ap (λ (j : Joint). j.serving) e in absurd (cc no)
result_asks a (suc (suc n), l, e) = absurd (omega (arith, l))

import_serves : (b : End) → Contains shared_call.joints (joint (PartEnd 0 0) b) → ImportEnd 0 0 ≡ b
import_serves b (zero, l, e) = let no : ResultEnd 0 ≡ PartEnd 0 0 = ap (λ (j : Joint). j.asking) e in absurd (cc no)
import_serves b (suc zero, l, e) = ap (λ (j : Joint). j.serving) e
import_serves b (suc (suc n), l, e) = absurd (omega (arith, l))

second_unasked : (a : End) → Contains shared_call.joints (joint a (PartEnd 0 2)) → ⊥
second_unasked a (zero, l, e) = let no : PartEnd 0 1 ≡ PartEnd 0 2 = ap (λ (j : Joint). j.serving) e in cc no
second_unasked a (suc zero, l, e) = let no : ImportEnd 0 0 ≡ PartEnd 0 2 = ap (λ (j : Joint). j.serving) e in cc no
second_unasked a (suc (suc n), l, e) = omega (arith, l)

-- each joint has one end at the Share, and one elsewhere
abbrev OneSide : Joint → Type 0
OneSide j = ((IsOfPart 0 j.asking → ⊥) × IsOfPart 0 j.serving) ⊎ (IsOfPart 0 j.asking × (IsOfPart 0 j.serving → ⊥))

one_side : (a b : End) → Contains shared_call.joints (joint a b) → OneSide (joint a b)
one_side a b (zero, l, e) = subst (λ (j : Joint). OneSide j) e (inl ((λ h. h), refl))
one_side a b (suc zero, l, e) = subst (λ (j : Joint). OneSide j) e (inr (refl, (λ h. h)))
one_side a b (suc (suc n), l, e) = absurd (omega (arith, l))

not_both : (a b : End) → OneSide (joint a b) → IsOfPart 0 a → IsOfPart 0 b → ⊥
not_both a b (inl (outside, inside)) one other = outside one
not_both a b (inr (inside, outside)) one other = outside other

not_neither : (a b : End) → OneSide (joint a b) → (IsOfPart 0 a → ⊥) → (IsOfPart 0 b → ⊥) → ⊥
not_neither a b (inl (outside, inside)) one other = other inside
not_neither a b (inr (inside, outside)) one other = one inside

abbrev Seen : Joint → Type 0
Seen j =
    (Contains shared_call.joints j × (IsOfPart 0 j.asking → ⊥) × (IsOfPart 0 j.serving → ⊥)) ⊎ LeadsThrough 0 Com 0 shared_call j.asking j.serving

to_seen : (a b : End) → Contains plain_call.joints (joint a b) → Seen (joint a b)
to_seen a b (zero, l, e) = subst (λ (j : Joint). Seen j) e (inr (0, serves 0 0, refl, (0, omega arith, refl), (1, omega arith, refl)))
to_seen a b (suc n, l, e) = absurd (omega (arith, l))

through_first : (a b : End) (j : ℕ) (k : Contact) → slice_get (contacts_of Com) j ≡ Some k
    → Contains shared_call.joints (joint a (way_into 0 Com 0 j k.role)) → Contains shared_call.joints (joint (way_out_of 0 Com 0 j k.role) b)
    → Contains plain_call.joints (joint a b)
through_first a b zero k is one other =
    let same = sym (same_Some (serves 0 0) k is) in
    let asks = result_asks a (subst (λ (x : Contact). Contains shared_call.joints (joint a (way_into 0 Com 0 0 x.role))) same one) in
    let served = import_serves b (subst (λ (x : Contact). Contains shared_call.joints (joint (way_out_of 0 Com 0 0 x.role) b)) same other) in
    (0, omega arith, λ i. joint (asks i) (served i))
through_first a b (suc j) k is one other = absurd (none-some k is)

from_seen : (a b : End) → Seen (joint a b) → Contains plain_call.joints (joint a b)
from_seen a b (inl (has, one, other)) = absurd (not_neither a b (one_side a b has) one other)
from_seen a b (inr (j, k, is, one, other)) = through_first a b j k is one other

pub first_is_seen : FirstIsSeen
first_is_seen =
    record {
      share = refl;
      caller = omega arith;
      right = shared_is_right;
      also_right = plain_is_right;
      parts = refl;
      imports = refl;
      outcome = refl;
      apart = λ a b has one other. not_both a b (one_side a b has) one other;
      joints = λ a b. (to_seen a b, from_seen a b);
    }

through_second : (j : ℕ) (k : Contact) → slice_get (contacts_of Com) j ≡ Some k
    → Contains shared_call.joints (joint (ResultEnd 0) (way_into 0 Com 1 j k.role)) → ⊥
through_second zero k is one =
    second_unasked (ResultEnd 0)
    (subst (λ (x : Contact). Contains shared_call.joints (joint (ResultEnd 0) (way_into 0 Com 1 0 x.role))) (sym (same_Some (serves 0 0) k is)) one)
through_second (suc j) k is one = none-some k is

pub second_is_not : SecondIsNot
second_is_not is = by_joint ((is.joints (ResultEnd 0) (ImportEnd 0 0)).0 (0, omega arith, refl))
  where
    by_joint : (Contains shared_call.joints (joint (ResultEnd 0) (ImportEnd 0 0)) × (IsOfPart 0 (ResultEnd 0) → ⊥) × (IsOfPart 0 (ImportEnd 0 0) → ⊥))
        ⊎ LeadsThrough 0 Com 1 shared_call (ResultEnd 0) (ImportEnd 0 0) → ⊥
    by_joint (inl (has, one, other)) = not_neither (ResultEnd 0) (ImportEnd 0 0) (one_side (ResultEnd 0) (ImportEnd 0 0) has) one other
    by_joint (inr (j, k, at, one, other)) = through_second j k at one
