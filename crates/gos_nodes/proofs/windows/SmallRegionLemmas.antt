-- The first child of `c ; c`, with the Share for its supply, is a region.
use Rattle.std.specs.Prelude.{◌≡◌, ℕ, zero, suc, ◌+◌, ◌-◌, ◌*◌, ◌<◌, Some, slice_get, Contains, [], ◌∷◌, ◌⊎◌}
use Rattle.std.proofs.Common.{refl, sym, ap, subst, arith, inl, inr}
use Rattle.std.proofs.lemmas.Option.{none-some, same_Some}
use Rattle.gos_types.specs.Types.{Com}
use Rattle.gos_plan.specs.Kinds.{Part, Share}
use Rattle.gos_plan.specs.Plans.{End, PartEnd, ImportEnd, ResultEnd, Joint, contact_at, IsRight}
use Rattle.gos_plan.specs.Tokens.{IsPortEnd}
use Rattle.gos_plan.proofs.JointLemmas.{which_end}
use Rattle.gos_realises.specs.realises.Regular.{count}
use Rattle.gos_joining.specs.webs.Webs.{joint}
use Rattle.gos_joining.specs.webs.SmallWebs.{number_of_first}
use Rattle.gos_joining.specs.webs.Cutting.{IsInside, IsOutside, StandsIn, lies_at}
use Rattle.gos_sharing.specs.sharing.Sharing.{caller_end}
use Rattle.gos_nodes.specs.windows.Regions.{Serving, IsOther}
use Rattle.gos_nodes.specs.windows.SmallNodes.{calls_plan, call_plan, call_outer, call_inner, call_out, served, CallIsRegion, WrongSideIsNone}

calls_right : IsRight calls_plan
calls_right =
    (((0, 0, refl, refl), refl, refl), (((0, 0, refl, refl), refl, refl), (((0, 0, refl, refl), refl, refl), (((0, 0, refl, refl), refl, refl), tt))))

call_right : IsRight call_plan
call_right = (((0, 0, refl, refl), refl, refl), (((0, 0, refl, refl), refl, refl), tt))

its_part : (i : ℕ) (k : Part) → slice_get call_plan.parts i ≡ Some k → (slice_get calls_plan.parts 1 ≡ Some k) × (Some 0 ≡ Some i)
its_part zero k is = (is, refl)
its_part (suc i) k is = absurd (none-some k is)

its_number : (i j : ℕ) → number_of_first i ≡ Some j → (1 ≡ i) × ((k : Part) × (slice_get call_plan.parts j ≡ Some k))
its_number zero j is = absurd (none-some j is)
its_number (suc zero) j is = (refl, (Share Com, ap (λ n. slice_get call_plan.parts n) (sym (same_Some 0 j is))))
its_number (suc (suc i)) j is = absurd (none-some j is)

-- the ends in its joints
abbrev OneOf : End → End → End → Type 0
OneOf e a b = (e ≡ a) ⊎ (e ≡ b)

ends_of : (e : End) → StandsIn call_plan e → OneOf e (ResultEnd 0) (PartEnd 0 1) ⊎ OneOf e (PartEnd 0 0) (ImportEnd 0 0)
ends_of e (j, (zero, l, is), stands) =
    inl (subst (λ (x : Joint). OneOf e x.asking x.serving) (sym is) (which_end e j stands))
ends_of e (j, (suc zero, l, is), stands) =
    inr (subst (λ (x : Joint). OneOf e x.asking x.serving) (sym is) (which_end e j stands))
ends_of e (j, (suc (suc n), l, is), stands) = absurd (omega (arith, l))

not_port : (e : End) (i h : ℕ) → IsPortEnd e → e ≡ PartEnd i h → ⊥
not_port e i h port is = subst (λ (x : End). IsPortEnd x) is port

its_port : (e : End) → IsPortEnd e → StandsIn call_plan e → OneOf e (ResultEnd 0) (ImportEnd 0 0)
its_port e port stands =
    elim (ends_of e stands) [
      | inl one ↦
          elim one [
            | inl is ↦ inl is
            | inr is ↦ absurd (not_port e 0 1 port is)
          ]
      | inr one ↦
          elim one [
            | inl is ↦ absurd (not_port e 0 0 port is)
            | inr is ↦ inr is
          ]
    ]

abbrev Port : End → Type 0
Port e = IsOutside call_out (call_outer e) × (call_inner (call_outer e) ≡ Some e)

port_there : (e : End) → OneOf e (ResultEnd 0) (ImportEnd 0 0) → Port e
port_there e (inl is) = subst Port (sym is) (refl, refl)
port_there e (inr is) = subst Port (sym is) (tt, refl)

same_contact : (e : End) → OneOf e (ResultEnd 0) (ImportEnd 0 0) → contact_at calls_plan (call_outer e) ≡ contact_at call_plan e
same_contact e (inl is) = subst (λ (x : End). contact_at calls_plan (call_outer x) ≡ contact_at call_plan x) (sym is) refl
same_contact e (inr is) = subst (λ (x : End). contact_at calls_plan (call_outer x) ≡ contact_at call_plan x) (sym is) refl

abbrev Inner : End → End → Type 0
Inner b e = IsPortEnd e × StandsIn call_plan e × (call_outer e ≡ b)

its_inner : (b e : End) → call_inner b ≡ Some e → Inner b e
its_inner (PartEnd zero zero) e is =
    subst (Inner (PartEnd 0 0)) (same_Some (ResultEnd 0) e is) (tt, (joint (ResultEnd 0) (PartEnd 0 1), (0, omega arith, refl), refl), refl)
its_inner (PartEnd zero (suc h)) e is = absurd (none-some e is)
its_inner (PartEnd (suc i) h) e is = absurd (none-some e is)
its_inner (ImportEnd zero zero) e is =
    subst (Inner (ImportEnd 0 0)) (same_Some (ImportEnd 0 0) e is) (tt, (joint (PartEnd 0 0) (ImportEnd 0 0), (1, omega arith, refl), refl), refl)
its_inner (ImportEnd zero (suc h)) e is = absurd (none-some e is)
its_inner (ImportEnd (suc i) h) e is = absurd (none-some e is)
its_inner (ResultEnd h) e is = absurd (none-some e is)

-- its joints
abbrev laid : Joint → Joint
laid j = joint (lies_at call_out j.asking) (lies_at call_out j.serving)

its_joint : (a b : End) → Contains call_plan.joints (joint a b) → Contains calls_plan.joints (laid (joint a b))
its_joint a b (zero, l, e) = (1, omega arith, ap laid e)
its_joint a b (suc zero, l, e) = (3, omega arith, ap laid e)
its_joint a b (suc (suc n), l, e) = absurd (omega (arith, l))

abbrev Inside : Joint → Type 0
Inside j = IsInside call_out j.asking ⊎ IsInside call_out j.serving

abbrev Known : Joint → Type 0
Known j =
    Inside j
    → ((d e : End) × Contains call_plan.joints (joint d e) × (lies_at call_out d ≡ j.asking) × (lies_at call_out e ≡ j.serving))
    ⊎ ((IsInside call_out j.asking → IsOther (served 0 ∷ []) j.asking) × (IsInside call_out j.serving → IsOther (served 0 ∷ []) j.serving))

run_known : Known (joint (ResultEnd 0) (PartEnd 0 2))
run_known (inl h) = absurd h
run_known (inr (j, h)) = absurd (none-some j h)

first_known : Known (joint (PartEnd 0 0) (PartEnd 1 1))
first_known inside = inl (ResultEnd 0, PartEnd 0 1, (0, omega arith, refl), refl, refl)

second_known : Known (joint (PartEnd 0 1) (PartEnd 1 2))
second_known inside = inr ((λ h. absurd (none-some h.0 h.1)), (λ h. (served 0, 0, (0, omega arith, refl), omega arith, refl)))

call_known : Known (joint (PartEnd 1 0) (ImportEnd 0 0))
call_known inside = inl (PartEnd 0 0, ImportEnd 0 0, (1, omega arith, refl), refl, refl)

all_known : (j : Joint) → Contains calls_plan.joints j → Known j
all_known j (zero, l, e) = subst Known e run_known
all_known j (suc zero, l, e) = subst Known e first_known
all_known j (suc (suc zero), l, e) = subst Known e second_known
all_known j (suc (suc (suc zero)), l, e) = subst Known e call_known
all_known j (suc (suc (suc (suc n))), l, e) = absurd (omega (arith, l))

-- the Share
only_served : (c : ℕ) (n : Serving) → Contains (served c ∷ []) n → served c ≡ n
only_served c n (zero, l, is) = is
only_served c n (suc k, l, is) = absurd (omega (arith, l))

abbrev Serves : Serving → Type 0
Serves n = (n.side < 2) × ((i : ℕ) × (number_of_first n.part ≡ Some i) × (slice_get call_plan.parts i ≡ Some (Share n.ty)))

it_serves : Serves (served 0)
it_serves = (omega arith, (0, refl, refl))

abbrev Unused : Serving → Type 0
Unused n = (i j : ℕ) → number_of_first n.part ≡ Some i → j < count n.ty → StandsIn call_plan (caller_end i n.ty (1 - n.side) j) → ⊥

far_end : (i h : ℕ) → 1 < h → StandsIn call_plan (PartEnd i h) → ⊥
far_end i h far stands =
    elim (ends_of (PartEnd i h) stands) [
      | inl one ↦
          elim one [
            | inl is ↦ (let clash : PartEnd i h ≡ ResultEnd 0 = is in cc clash)
            | inr is ↦ (let at : PartEnd i h ≡ PartEnd 0 1 = is in let shake : h ≡ 1 = cc at in omega (arith, far, shake))
          ]
      | inr one ↦
          elim one [
            | inl is ↦ (let at : PartEnd i h ≡ PartEnd 0 0 = is in let shake : h ≡ 0 = cc at in omega (arith, far, shake))
            | inr is ↦ (let clash : PartEnd i h ≡ ImportEnd 0 0 = is in cc clash)
          ]
    ]

it_is_unused : Unused (served 0)
it_is_unused i j number low stands = far_end i (count Com + 1 * count Com + j) (omega arith) stands

pub call_is_region : CallIsRegion
call_is_region =
    record {
      whole_right = calls_right;
      right = call_right;
      parts = its_part;
      numbers = its_number;
      ports = λ e port stands. port_there e (its_port e port stands);
      inners = its_inner;
      contacts = λ e port stands. same_contact e (its_port e port stands);
      joints = its_joint;
      all = λ a b there. all_known (joint a b) there;
      serving = λ n there. subst Serves (only_served 0 n there) it_serves;
      unused = λ n i j there. subst Unused (only_served 0 n there) it_is_unused i j;
    }

pub wrong_side_is_none : WrongSideIsNone
wrong_side_is_none is =
    is.unused (served 1) 0 0 (0, omega arith, refl) refl (omega arith) (joint (ResultEnd 0) (PartEnd 0 1), (0, omega arith, refl), refl)
