-- The plan of `c || skip`.
use Rattle.std.specs.Prelude.{◌≡◌, ◌⊎◌, ℕ, zero, suc, true, [], ◌∷◌, Some, All, Contains, slice_get}
use Rattle.std.proofs.Common.{arith, refl, sym, ap, subst, inl, inr}
use Rattle.std.proofs.lemmas.List.Elements.{All-nil, All-cons}
use Rattle.std.proofs.lemmas.Option.{none-some, same_Some}
use Rattle.gos_types.specs.Types.{Com}
use Rattle.gos_types.proofs.ListLemmas.{none_in_empty}
use Rattle.gos_model.specs.Terms as terms
use Rattle.gos_model.specs.Terms.{Import}
use Rattle.gos_model.specs.SmallPrograms.{c}
use Rattle.gos_model.specs.Typing.{Typed}
use Rattle.gos_plan.specs.Kinds.{Part, Skip, Par}
use Rattle.gos_plan.specs.Plans.{End, PartEnd, ImportEnd, ResultEnd, Joint, contact_at, stands_in, IsRight}
use Rattle.gos_plan.specs.Tokens.{IsPortEnd}
use Rattle.gos_plan.specs.TokenBits.{LiteralFits}
use Rattle.gos_plan.specs.SmallPlans.{skip_plan}
use Rattle.gos_plan.specs.SmallCalls.{call_plan}
use Rattle.gos_plan.proofs.JointLemmas.{which_end, result_is_no_import}
use Rattle.gos_plan.proofs.SmallPlanLemmas.{skip_is_right}
use Rattle.gos_joining.specs.webs.Webs.{joint}
use Rattle.gos_joining.specs.webs.Cutting.{lies_at, IsInside, IsOutside, StandsIn, IsCut}
use Rattle.gos_joining.proofs.webs.LoneCutLemmas.{AreOutside, lone_is_cut}
use Rattle.gos_joining.proofs.webs.SmallWebLemmas.{one_port}
use Rattle.gos_realises.proofs.realises.SkipLemmas.{skip_is_realised}
use Rattle.gos_realises.proofs.realises.NameLemmas.{name_is_realised}
use Rattle.gos_sharing.proofs.cores.VariableLemmas.{apart_shakes}
use Rattle.gos_nodes.specs.parallel.Parallel.{IsSide, IsJointOf, IsPartOf}
use Rattle.gos_nodes.specs.parallel.SmallParallel.{call_and_skip, call_outer, call_inner, call_out, skip_number, skip_inner, skip_out, CallAndSkipIsParallel, CallAndSkipRealises, SkipIsNotLeft, SkipIsNotBoth, OtherPartIsNot}
use Rattle.gos_nodes.proofs.windows.OpenLemmas.{ground_heard}
use Rattle.gos_nodes.proofs.parallel.RealisesLemmas.{parallel_realises}

whole_is_right : IsRight call_and_skip
whole_is_right = (((0, 0, refl, refl), refl, refl), (((0, 0, refl, refl), refl, refl), (((0, 0, refl, refl), refl, refl), tt)))

-- the region of `c`
abbrev call_joint : Joint
call_joint = joint (ResultEnd 0) (ImportEnd 0 0)

call_ends : (e : End) → StandsIn call_plan e → (ResultEnd 0 ≡ e) ⊎ (ImportEnd 0 0 ≡ e)
call_ends e (j, (zero, l, is), stands) =
    elim (which_end e call_joint (subst (λ (x : Joint). stands_in e x ≡ true) (sym is) stands)) [ inl at ↦ inl (sym at) | inr at ↦ inr (sym at) ]
call_ends e (j, (suc n, l, is), stands) = absurd (omega (arith, l))

call_ports : (e : End) → StandsIn call_plan e → IsOutside call_out (call_outer e) × (call_inner (call_outer e) ≡ Some e)
call_ports e stands =
    elim (call_ends e stands) [
      | inl at ↦ subst (λ (x : End). IsOutside call_out (call_outer x) × (call_inner (call_outer x) ≡ Some x)) at (refl, refl)
      | inr at ↦ subst (λ (x : End). IsOutside call_out (call_outer x) × (call_inner (call_outer x) ≡ Some x)) at (tt, refl)
    ]

call_contacts : (e : End) → StandsIn call_plan e → contact_at call_and_skip (call_outer e) ≡ contact_at call_plan e
call_contacts e stands =
    elim (call_ends e stands) [
      | inl at ↦ subst (λ (x : End). contact_at call_and_skip (call_outer x) ≡ contact_at call_plan x) at refl
      | inr at ↦ subst (λ (x : End). contact_at call_and_skip (call_outer x) ≡ contact_at call_plan x) at refl
    ]

call_inners : (b e : End) → call_inner b ≡ Some e → IsPortEnd e × StandsIn call_plan e × (call_outer e ≡ b)
call_inners (PartEnd zero zero) e is =
    subst (λ (x : End). IsPortEnd x × StandsIn call_plan x × (call_outer x ≡ PartEnd 0 0)) (same_Some (ResultEnd 0) e is)
    (tt, (call_joint, (0, omega arith, refl), refl), refl)
call_inners (PartEnd zero (suc h)) e is = absurd (none-some e is)
call_inners (PartEnd (suc i) h) e is = absurd (none-some e is)
call_inners (ImportEnd zero zero) e is =
    subst (λ (x : End). IsPortEnd x × StandsIn call_plan x × (call_outer x ≡ ImportEnd 0 0)) (same_Some (ImportEnd 0 0) e is)
    (tt, (call_joint, (0, omega arith, refl), refl), refl)
call_inners (ImportEnd zero (suc h)) e is = absurd (none-some e is)
call_inners (ImportEnd (suc i) h) e is = absurd (none-some e is)
call_inners (ResultEnd h) e is = absurd (none-some e is)

call_joints : (a b : End) → Contains call_plan.joints (joint a b) → Contains call_and_skip.joints (joint (lies_at call_out a) (lies_at call_out b))
call_joints a b (zero, l, e) = (1, omega arith, ap (λ (j : Joint). joint (lies_at call_out j.asking) (lies_at call_out j.serving)) e)
call_joints a b (suc n, l, e) = absurd (omega (arith, l))

nothing_inside : (e : End) → IsInside call_out e → ⊥
nothing_inside (PartEnd i h) (j, is) = none-some j is
nothing_inside (ImportEnd i h) is = is
nothing_inside (ResultEnd h) is = is

call_is_cut : IsCut call_out call_and_skip call_plan
call_is_cut =
    record {
      whole_right = whole_is_right;
      right = (((0, 0, refl, refl), refl, refl), tt);
      parts = λ i k is. absurd (none-some k is);
      numbers = λ i j is. absurd (none-some j is);
      ports = λ e port stands. call_ports e stands;
      inners = call_inners;
      contacts = λ e port stands. call_contacts e stands;
      joints = call_joints;
      all = λ a b has inside. absurd (elim inside [ inl h ↦ nothing_inside a h | inr h ↦ nothing_inside b h ]);
    }

-- the region of `skip`
skip_numbers : (i j : ℕ) → skip_number i ≡ Some j → (1 ≡ i) × (0 ≡ j)
skip_numbers zero j is = absurd (none-some j is)
skip_numbers (suc zero) j is = (refl, same_Some 0 j is)
skip_numbers (suc (suc i)) j is = absurd (none-some j is)

skip_ports : (b e : End) → skip_inner b ≡ Some e → (PartEnd 0 1 ≡ b) × (ResultEnd 0 ≡ e)
skip_ports (PartEnd zero zero) e is = absurd (none-some e is)
skip_ports (PartEnd zero (suc zero)) e is = (refl, same_Some (ResultEnd 0) e is)
skip_ports (PartEnd zero (suc (suc h))) e is = absurd (none-some e is)
skip_ports (PartEnd (suc i) h) e is = absurd (none-some e is)
skip_ports (ImportEnd i h) e is = absurd (none-some e is)
skip_ports (ResultEnd h) e is = absurd (none-some e is)

skip_joints : (j : Joint) → Contains call_and_skip.joints j → (joint (PartEnd 0 1) (PartEnd 1 0) ≡ j) ⊎ AreOutside skip_out j
skip_joints j (zero, l, e) = inr (subst (AreOutside skip_out) e (tt, refl))
skip_joints j (suc zero, l, e) = inr (subst (AreOutside skip_out) e (refl, tt))
skip_joints j (suc (suc zero), l, e) = inl e
skip_joints j (suc (suc (suc n)), l, e) = absurd (omega (arith, l))

skip_is_cut : IsCut skip_out call_and_skip skip_plan
skip_is_cut =
    lone_is_cut 5 Com Skip 1 (PartEnd 0 1) skip_number skip_inner call_and_skip
    (record {
      whole_right = whole_is_right;
      right = skip_is_right;
      part = refl;
      own_number = refl;
      one_number = skip_numbers;
      outside = refl;
      own_port = refl;
      one_port = skip_ports;
      contact = refl;
      asked = (2, omega arith, refl);
      joints = skip_joints;
    })

-- the whole
call_side : IsSide 0 0 call_out call_and_skip call_plan
call_side =
    record {
      cut = call_is_cut;
      outcome = refl;
      outside = refl;
      result = refl;
      imports = λ i k stands. (i, refl, refl);
      among = λ x t is. is;
    }

skip_side : IsSide 0 1 skip_out call_and_skip skip_plan
skip_side =
    record {
      cut = skip_is_cut;
      outcome = refl;
      outside = refl;
      result = refl;
      imports = λ i k stands. absurd (result_is_no_import i k (one_port (ImportEnd i k) tt stands));
      among = λ x t is. absurd (none-some t is);
    }

whole_joints : (a b : End) → Contains call_and_skip.joints (joint a b)
    → (IsJointOf call_out call_plan a b ⊎ IsJointOf skip_out skip_plan a b) ⊎ ((a ≡ ResultEnd 0) × (b ≡ PartEnd 0 2))
whole_joints a b (zero, l, e) = inr (sym (ap (λ (j : Joint). j.asking) e), sym (ap (λ (j : Joint). j.serving) e))
whole_joints a b (suc zero, l, e) =
    inl (inl (ResultEnd 0, ImportEnd 0 0, (0, omega arith, refl), ap (λ (j : Joint). j.asking) e, ap (λ (j : Joint). j.serving) e))
whole_joints a b (suc (suc zero), l, e) =
    inl (inr (ResultEnd 0, PartEnd 0 0, (0, omega arith, refl), ap (λ (j : Joint). j.asking) e, ap (λ (j : Joint). j.serving) e))
whole_joints a b (suc (suc (suc n)), l, e) = absurd (omega (arith, l))

whole_parts : (i : ℕ) (k : Part) → slice_get call_and_skip.parts i ≡ Some k → (IsPartOf call_out i ⊎ IsPartOf skip_out i) ⊎ (i ≡ 0)
whole_parts zero k is = inr refl
whole_parts (suc zero) k is = inl (inr (0, refl))
whole_parts (suc (suc i)) k is = absurd (none-some k is)

pub call_and_skip_is_parallel : CallAndSkipIsParallel
call_and_skip_is_parallel =
    record {
      left = call_side;
      right = skip_side;
      outcome = refl;
      driver = refl;
      run = (0, omega arith, refl);
      joints = whole_joints;
      parts = whole_parts;
      apart = λ i one other. none-some one.0 one.1;
      names = λ i j one other. absurd (none_in_empty j other);
    }

literals : All LiteralFits call_and_skip.parts
literals = All-cons LiteralFits Par (Skip ∷ []) tt (All-cons LiteralFits Skip [] tt (All-nil LiteralFits))

typed : Typed call_and_skip.imports [] (terms.Par (Import c) terms.Skip) Com
typed = (refl, refl, refl, λ t one other. none_in_empty t other)

pub call_and_skip_realises : CallAndSkipRealises
call_and_skip_realises =
    parallel_realises 0 call_out skip_out call_and_skip call_plan skip_plan (Import c) terms.Skip call_and_skip_is_parallel
    (ground_heard call_out call_and_skip call_plan (tt, tt) tt) (ground_heard skip_out call_and_skip skip_plan tt tt) literals (inl tt, tt)
    (λ j has. absurd (none_in_empty j has), tt) typed name_is_realised skip_is_realised

-- what it is not made of
pub skip_is_not_left : SkipIsNotLeft
skip_is_not_left is = apart_shakes 0 1 0 (λ e. omega (arith, e)) is.left.result

pub skip_is_not_both : SkipIsNotBoth
skip_is_not_both is = is.apart 1 (0, refl) (0, refl)

pub other_part_is_not : OtherPartIsNot
other_part_is_not is = cc is.driver
