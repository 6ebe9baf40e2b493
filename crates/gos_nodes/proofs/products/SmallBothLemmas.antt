-- Small products, and their sides.
use Rattle.std.specs.Prelude.{zero, suc, ◌+◌, ◌-◌, ◌*◌, ◌<◌, None, All, nat_eq, nat_lt, slice_get, Contains}
use Rattle.std.proofs.Common.{◌≡◌, ℕ, Bool, true, false, [], ◌⊎◌, Some, inl, inr, refl, sym, ◌∙◌, ap, subst, arith, if◌then◌else◌}
use Rattle.std.proofs.lemmas.Bool.Decides.{nat_tests}
use Rattle.std.proofs.lemmas.Option.{none-some, same_Some}
use Rattle.gos_types.specs.Types.{Com}
use Rattle.gos_types.proofs.ListLemmas.{none_in_empty}
use Rattle.gos_model.specs.Typing.{Imported}
use Rattle.gos_model.proofs.NumberLemmas.{nat_eq_itself}
use Rattle.gos_plan.specs.Kinds.{Part, Skip, Share, asks}
use Rattle.gos_plan.specs.Plans.{End, PartEnd, ImportEnd, ResultEnd, Joint, Plan, IsRight, contact_at}
use Rattle.gos_plan.specs.Tokens.{IsPortEnd}
use Rattle.gos_plan.specs.TokenBits.{LiteralFits}
use Rattle.gos_plan.specs.SmallPlans.{skip_plan}
use Rattle.gos_plan.proofs.JointLemmas.{which_end}
use Rattle.gos_plan.proofs.SmallPlanLemmas.{skip_is_right}
use Rattle.gos_realises.specs.realises.Regular.{count, IsRegular}
use Rattle.gos_joining.specs.webs.Webs.{joint}
use Rattle.gos_joining.specs.webs.Cutting.{IsInside, StandsIn, lies_at}
use Rattle.gos_joining.proofs.webs.SmallWebLemmas.{one_port}
use Rattle.gos_sharing.specs.sharing.Sharing.{caller_end}
use Rattle.gos_supplies.proofs.turns.TypeLemmas.{told_same}
use Rattle.gos_nodes.specs.windows.Nodes.{IsStage}
use Rattle.gos_nodes.specs.windows.Regions.{Serving, IsOther, IsRegion, IsLoyal}
use Rattle.gos_nodes.specs.windows.SmallNodes.{first_stage}
use Rattle.gos_joining.specs.webs.SmallWebs.{twice_plan}
use Rattle.gos_nodes.proofs.windows.SmallNodeLemmas.{twice_is_node}
use Rattle.gos_sharing.specs.behind.Behind.{passing, IsBehind, BehindIsRegular, LiesBehind}
use Rattle.gos_sharing.proofs.behind.SourceLemmas.{behind_is_loyal}
use Rattle.gos_nodes.specs.products.Both.{IsSide, IsOfSide}
use Rattle.gos_nodes.specs.products.SmallBoth.{skips_plan, result_inner, skip_side, SkipsAreBoth, one_skip_plan, shared_side, SharedAreBoth, crossed_plan, CrossedIsNone}
use Rattle.gos_nodes.proofs.products.BothLemmas.{of_side}

-- the plan of `skip`
skip_stage : IsStage twice_plan 0 first_stage
skip_stage = twice_is_node.stages first_stage (0, omega arith, refl)

skip_is_regular : IsRegular skip_plan
skip_is_regular = skip_stage.regular

no_import : (x : Imported) → Contains skip_plan.imports x → ⊥
no_import x (k, within, is) = omega (arith, within)

-- the end of which a side's result stands outside
module _ (n : ℕ) (p : Plan) (stands : StandsIn p (ResultEnd 0)) where
  inner_is : (b e : End) → result_inner n b ≡ Some e → IsPortEnd e × StandsIn p e × (ResultEnd n ≡ b)
  inner_is (PartEnd i h) e is = absurd (none-some e is)
  inner_is (ImportEnd i h) e is = absurd (none-some e is)
  inner_is (ResultEnd h) e is = by_test (nat_eq h n) refl is
    where
      by_test : (b : Bool) → nat_eq h n ≡ b → (if b then Some (ResultEnd 0) else None) ≡ Some e → IsPortEnd e × StandsIn p e × (ResultEnd n ≡ ResultEnd h)
      by_test true t is =
          let same : h ≡ n = grind (arith, t) in
          let end : ResultEnd 0 ≡ e = same_Some (ResultEnd 0) e is in
          (subst (λ (x : End). IsPortEnd x) end tt, subst (λ (x : End). StandsIn p x) end stands, ap ResultEnd (sym same))
      by_test false t is = absurd (none-some e is)

inner_there : (n : ℕ) → result_inner n (ResultEnd n) ≡ Some (ResultEnd 0)
inner_there n = ap (λ (b : Bool). if b then Some (ResultEnd 0) else None) (nat_eq_itself n)

two_cases : (n : ℕ) → n < 2 → (P : ℕ → Type 0) → P 0 → P 1 → P n
two_cases zero less P first second = first
two_cases (suc zero) less P first second = second
two_cases (suc (suc n)) less P first second = absurd (omega (arith, less))

-- a Skip for each side
skips_right : IsRight skips_plan
skips_right = (((0, 0, refl, refl), refl, refl), (((0, 0, refl, refl), refl, refl), tt))

skip_stands : StandsIn skip_plan (ResultEnd 0)
skip_stands = (joint (ResultEnd 0) (PartEnd 0 0), (0, omega arith, refl), refl)

module _ (n : ℕ) (less : n < 2) where
  part_there : slice_get skips_plan.parts n ≡ Some Skip
  part_there = two_cases n less (λ (i : ℕ). slice_get skips_plan.parts i ≡ Some Skip) refl refl

  contact_there : contact_at skips_plan (ResultEnd n) ≡ Some (asks 0 0)
  contact_there = two_cases n less (λ (i : ℕ). contact_at skips_plan (ResultEnd i) ≡ Some (asks 0 0)) refl refl

  joint_there : Contains skips_plan.joints (joint (ResultEnd n) (PartEnd n 0))
  joint_there =
      two_cases n less (λ (i : ℕ). Contains skips_plan.joints (joint (ResultEnd i) (PartEnd i 0))) (0, omega arith, refl) (1, omega arith, refl)

  its_part : (i : ℕ) (k : Part) → slice_get skip_plan.parts i ≡ Some k → (slice_get skips_plan.parts n ≡ Some k) × ((if nat_eq n n then Some 0 else None) ≡ Some i)
  its_part zero k is = (part_there ∙ is, ap (λ (b : Bool). if b then Some 0 else None) (nat_eq_itself n))
  its_part (suc i) k is = absurd (none-some k is)

  its_number : (i j : ℕ) → (if nat_eq i n then Some 0 else None) ≡ Some j → (n ≡ i) × ((k : Part) × (slice_get skip_plan.parts j ≡ Some k))
  its_number i j is = by_test (nat_eq i n) refl is
    where
      by_test : (b : Bool) → nat_eq i n ≡ b → (if b then Some 0 else None) ≡ Some j → (n ≡ i) × ((k : Part) × (slice_get skip_plan.parts j ≡ Some k))
      by_test true t is =
          let same : n ≡ i = grind (arith, t) in (same, (Skip, ap (slice_get skip_plan.parts) (sym (same_Some 0 j is))))
      by_test false t is = absurd (none-some j is)

  its_joint : (a b : End) → Contains skip_plan.joints (joint a b)
      → Contains skips_plan.joints (joint (lies_at (skip_side n).cut a) (lies_at (skip_side n).cut b))
  its_joint a b (zero, l, e) =
      subst (λ (j : Joint). Contains skips_plan.joints (joint (lies_at (skip_side n).cut j.asking) (lies_at (skip_side n).cut j.serving))) e joint_there
  its_joint a b (suc m, l, e) = absurd (omega (arith, l))

  abbrev Inside : Joint → Type 0
  Inside j = IsInside (skip_side n).cut j.asking ⊎ IsInside (skip_side n).cut j.serving

  abbrev Own : Joint → Type 0
  Own j = (d e : End) × Contains skip_plan.joints (joint d e) × (lies_at (skip_side n).cut d ≡ j.asking) × (lies_at (skip_side n).cut e ≡ j.serving)

  known : (m : ℕ) → Inside (joint (ResultEnd m) (PartEnd m 0)) → Own (joint (ResultEnd m) (PartEnd m 0))
  known m (inl inside) = absurd inside
  known m (inr (j, number)) =
      let (same, there) = its_number m j number in
      subst (λ (i : ℕ). Own (joint (ResultEnd i) (PartEnd i 0))) same (ResultEnd 0, PartEnd 0 0, (0, omega arith, refl), refl, refl)

  all_known : (j : Joint) → Contains skips_plan.joints j → Inside j → Own j
  all_known j (zero, l, e) inside = subst Own e (known 0 (subst Inside (sym e) inside))
  all_known j (suc zero, l, e) inside = subst Own e (known 1 (subst Inside (sym e) inside))
  all_known j (suc (suc m), l, e) inside = absurd (omega (arith, l))

  skip_region : IsRegion (skip_side n).cut [] skips_plan skip_plan
  skip_region =
      record {
        whole_right = skips_right;
        right = skip_is_right;
        parts = its_part;
        numbers = its_number;
        ports = λ e port stands. (tt, inner_there n ∙ ap Some (one_port e port stands));
        inners = inner_is n skip_plan skip_stands;
        contacts = λ e port stands. contact_there ∙ ap (contact_at skip_plan) (one_port e port stands);
        joints = its_joint;
        all = λ a b here inside. inl (all_known (joint a b) here inside);
        serving = λ x there. absurd (none_in_empty x there);
        unused = λ x i j there number low stands. none_in_empty x there;
      }

  skip_is_side : IsSide skips_plan n (skip_side n)
  skip_is_side =
      record {
        region = skip_region;
        regular = skip_is_regular;
        loyal = λ x i there number. absurd (none_in_empty x there);
        result = λ h stands.
            (let same : ResultEnd 0 ≡ ResultEnd h = one_port (ResultEnd h) tt stands in
            let zero_is : 0 ≡ h = cc same in
            let sum : n ≡ n + h = omega (arith, zero_is) in ap ResultEnd sum);
        imports = λ x has. absurd (no_import x has);
        names = tt;
        ports = λ i h stands. (let clash : ResultEnd 0 ≡ ImportEnd i h = one_port (ImportEnd i h) tt stands in absurd (cc clash));
        heard = λ i h m k x stands outer there role.
            (let clash : ResultEnd 0 ≡ ImportEnd i h = one_port (ImportEnd i h) tt stands in absurd (cc clash));
      }

of_one : (j : Joint) → Contains skips_plan.joints j → IsOfSide (skip_side 0) j.asking j.serving ⊎ IsOfSide (skip_side 1) j.asking j.serving
of_one j (zero, l, e) =
    subst (λ (x : Joint). IsOfSide (skip_side 0) x.asking x.serving ⊎ IsOfSide (skip_side 1) x.asking x.serving) e
    (inl (ResultEnd 0, PartEnd 0 0, (0, omega arith, refl), refl, refl))
of_one j (suc zero, l, e) =
    subst (λ (x : Joint). IsOfSide (skip_side 0) x.asking x.serving ⊎ IsOfSide (skip_side 1) x.asking x.serving) e
    (inr (ResultEnd 0, PartEnd 0 0, (0, omega arith, refl), refl, refl))
of_one j (suc (suc n), l, e) = absurd (omega (arith, l))

pub skips_are_both : SkipsAreBoth
skips_are_both =
    record {
      outcome = refl;
      names = tt;
      first = skip_is_side 0 (omega arith);
      first_type = refl;
      second = skip_is_side 1 (omega arith);
      second_type = refl;
      joints = λ c d here. of_one (joint c d) here;
    }

-- a joint between the sides
pub crossed_is_none : CrossedIsNone
crossed_is_none g e both = by_side (both.joints (ResultEnd 0) (ResultEnd 1) (0, omega arith, refl))
  where
    by_side : IsOfSide g (ResultEnd 0) (ResultEnd 1) ⊎ IsOfSide e (ResultEnd 0) (ResultEnd 1) → ⊥
    by_side (inl own) =
        let (h, low, sum, stands) = of_side crossed_plan 0 g both.first 1 (joint (ResultEnd 0) (ResultEnd 1)) refl own in
        let width : count g.plan.outcome ≡ 1 = ap count both.first_type in omega (arith, low, sum, width)
    by_side (inr own) =
        let (h, low, sum, stands) = of_side crossed_plan 1 e both.second 0 (joint (ResultEnd 0) (ResultEnd 1)) refl own in omega (arith, sum)

-- one Skip, behind a Share
one_skip_right : IsRight one_skip_plan
one_skip_right = (((0, 0, refl, refl), refl, refl), (((0, 0, refl, refl), refl, refl), (((0, 0, refl, refl), refl, refl), tt)))

skip_fits : All LiteralFits skip_plan.parts
skip_fits zero d within = tt
skip_fits (suc i) d within = absurd (omega (arith, within))

module _ (n : ℕ) (less : n < 2) (lies : LiesBehind) where
  abbrev shared : Plan
  shared = passing Com n skip_plan

  -- the caller's end of the Share
  abbrev call : End
  call = caller_end 1 Com n 0

  behind : IsBehind 1 Com n shared skip_plan
  behind = lies n skip_plan less skip_is_right

  source : Contains shared.joints (joint (PartEnd 1 0) (PartEnd 0 0))
  source = (0, omega arith, refl)

  asked : Contains shared.joints (joint (ResultEnd 0) call)
  asked = (1, omega arith, refl)

  stands_asked : StandsIn shared (ResultEnd 0)
  stands_asked = (joint (ResultEnd 0) call, asked, refl)

  -- the ends in its joints
  abbrev OneOf : End → Joint → Type 0
  OneOf e j = (e ≡ j.asking) ⊎ (e ≡ j.serving)

  ends_of : (e : End) → StandsIn shared e → OneOf e (joint (PartEnd 1 0) (PartEnd 0 0)) ⊎ OneOf e (joint (ResultEnd 0) call)
  ends_of e (j, (zero, l, is), stands) = inl (subst (OneOf e) (sym is) (which_end e j stands))
  ends_of e (j, (suc zero, l, is), stands) = inr (subst (OneOf e) (sym is) (which_end e j stands))
  ends_of e (j, (suc (suc m), l, is), stands) = absurd (omega (arith, l))

  not_part : (e : End) (i h : ℕ) → IsPortEnd e → e ≡ PartEnd i h → ⊥
  not_part e i h port is = subst (λ (x : End). IsPortEnd x) is port

  its_port : (e : End) → IsPortEnd e → StandsIn shared e → ResultEnd 0 ≡ e
  its_port e port stands =
      elim (ends_of e stands) [
        | inl one ↦
            elim one [
              | inl is ↦ absurd (not_part e 1 0 port is)
              | inr is ↦ absurd (not_part e 0 0 port is)
            ]
        | inr one ↦
            elim one [
              | inl is ↦ sym is
              | inr is ↦ absurd (subst (λ (x : End). IsPortEnd x) is port)
            ]
      ]

  clash : caller_end 1 Com (1 - n) 0 ≡ PartEnd 0 0 → ⊥
  clash at = cc at

  other_unused : StandsIn shared (caller_end 1 Com (1 - n) 0) → ⊥
  other_unused stands =
      elim (ends_of (caller_end 1 Com (1 - n) 0) stands) [
        | inl one ↦
            elim one [
              | inl is ↦ (let at : caller_end 1 Com (1 - n) 0 ≡ PartEnd 1 0 = is in let same : count Com + (1 - n) * count Com + 0 ≡ 0 = cc at in omega (arith, same))
              | inr is ↦ (let at : caller_end 1 Com (1 - n) 0 ≡ PartEnd 0 0 = is in clash at)
            ]
        | inr one ↦
            elim one [
              | inl is ↦ (let at : caller_end 1 Com (1 - n) 0 ≡ ResultEnd 0 = is in cc at)
              | inr is ↦
                  (let at : caller_end 1 Com (1 - n) 0 ≡ caller_end 1 Com n 0 = is in
                  let same : count Com + (1 - n) * count Com + 0 ≡ count Com + n * count Com + 0 = cc at in omega (arith, same, less))
            ]
      ]

  no_other : (j : ℕ) → j < count Com → StandsIn shared (caller_end 1 Com (1 - n) j) → ⊥
  no_other zero low stands = other_unused stands
  no_other (suc j) low stands = omega (arith, low)

  -- the region
  shared_contact : contact_at one_skip_plan (ResultEnd n) ≡ Some (asks 0 0)
  shared_contact = two_cases n less (λ (i : ℕ). contact_at one_skip_plan (ResultEnd i) ≡ Some (asks 0 0)) refl refl

  shared_joint : Contains one_skip_plan.joints (joint (ResultEnd n) call)
  shared_joint =
      two_cases n less (λ (i : ℕ). Contains one_skip_plan.joints (joint (ResultEnd i) (caller_end 1 Com i 0))) (1, omega arith, refl) (2, omega arith, refl)

  shared_part : (i : ℕ) (k : Part) → slice_get shared.parts i ≡ Some k → (slice_get one_skip_plan.parts i ≡ Some k) × ((if nat_lt i 2 then Some i else None) ≡ Some i)
  shared_part zero k is = (is, refl)
  shared_part (suc zero) k is = (is, refl)
  shared_part (suc (suc i)) k is = absurd (none-some k is)

  shared_number : (i j : ℕ) → (if nat_lt i 2 then Some i else None) ≡ Some j → (j ≡ i) × ((k : Part) × (slice_get shared.parts j ≡ Some k))
  shared_number zero j is = (sym (same_Some 0 j is), (Skip, ap (slice_get shared.parts) (sym (same_Some 0 j is))))
  shared_number (suc zero) j is = (sym (same_Some 1 j is), (Share Com, ap (slice_get shared.parts) (sym (same_Some 1 j is))))
  shared_number (suc (suc i)) j is =
      let past : nat_lt (suc (suc i)) 2 ≡ false = grind (arith, nat_tests) in
      absurd (none-some j (sym (ap (λ (b : Bool). if b then Some (suc (suc i)) else None) past) ∙ is))

  abbrev Within : Joint → Type 0
  Within j = Contains one_skip_plan.joints (joint (lies_at (shared_side n).cut j.asking) (lies_at (shared_side n).cut j.serving))

  shared_joints : (j : Joint) → Contains shared.joints j → Within j
  shared_joints j (zero, l, e) = subst Within e (0, omega arith, refl)
  shared_joints j (suc zero, l, e) = subst Within e shared_joint
  shared_joints j (suc (suc m), l, e) = absurd (omega (arith, l))

  abbrev Known : Joint → Type 0
  Known j =
      ((d e : End) × Contains shared.joints (joint d e) × (lies_at (shared_side n).cut d ≡ j.asking) × (lies_at (shared_side n).cut e ≡ j.serving))
      ⊎ ((IsInside (shared_side n).cut j.asking → IsOther (shared_side n).sides j.asking)
      × (IsInside (shared_side n).cut j.serving → IsOther (shared_side n).sides j.serving))

  of_caller : (m : ℕ) → m < 2 → Known (joint (ResultEnd m) (caller_end 1 Com m 0))
  of_caller m small = by_told (told_same n m)
    where
      by_told : (n ≡ m) ⊎ (n ≡ m → ⊥) → Known (joint (ResultEnd m) (caller_end 1 Com m 0))
      by_told (inl same) =
          subst (λ (i : ℕ). Known (joint (ResultEnd i) (caller_end 1 Com i 0))) same (inl (ResultEnd 0, call, asked, refl, refl))
      by_told (inr apart) =
          let other : m ≡ 1 - n = omega (arith, apart, small, less) in
          inr
          ((λ inside. absurd inside), (λ inside. (record { part = 1; ty = Com; side = n }, 0, (0, omega arith, refl), omega arith, ap (λ (i : ℕ). caller_end 1 Com i 0) other)))

  shared_known : (j : Joint) → Contains one_skip_plan.joints j → Known j
  shared_known j (zero, l, e) = subst Known e (inl (PartEnd 1 0, PartEnd 0 0, source, refl, refl))
  shared_known j (suc zero, l, e) = subst Known e (of_caller 0 (omega arith))
  shared_known j (suc (suc zero), l, e) = subst Known e (of_caller 1 (omega arith))
  shared_known j (suc (suc (suc m)), l, e) = absurd (omega (arith, l))

  the_serving : (x : Serving) → Contains (shared_side n).sides x → record { part = 1; ty = Com; side = n } ≡ x
  the_serving x (zero, l, is) = is
  the_serving x (suc m, l, is) = absurd (omega (arith, l))

  abbrev Serves : Serving → Type 0
  Serves x = (x.side < 2) × ((i : ℕ) × ((if nat_lt x.part 2 then Some x.part else None) ≡ Some i) × (slice_get shared.parts i ≡ Some (Share x.ty)))

  abbrev Unused : Serving → Type 0
  Unused x =
      (i j : ℕ) → (if nat_lt x.part 2 then Some x.part else None) ≡ Some i → j < count x.ty → StandsIn shared (caller_end i x.ty (1 - x.side) j) → ⊥

  abbrev Loyal : Serving → Type 0
  Loyal x = (i : ℕ) → (if nat_lt x.part 2 then Some x.part else None) ≡ Some i → IsLoyal i x.ty x.side shared

  its_unused : Unused (record { part = 1; ty = Com; side = n })
  its_unused i j number low stands =
      let one : 1 ≡ i = same_Some 1 i number in
      no_other j low (subst (λ (m : ℕ). StandsIn shared (caller_end m Com (1 - n) j)) (sym one) stands)

  shared_region : IsRegion (shared_side n).cut (shared_side n).sides one_skip_plan shared
  shared_region =
      record {
        whole_right = one_skip_right;
        right = behind.right;
        parts = shared_part;
        numbers = shared_number;
        ports = λ e port stands. (tt, inner_there n ∙ ap Some (its_port e port stands));
        inners = inner_is n shared stands_asked;
        contacts = λ e port stands. shared_contact ∙ ap (contact_at shared) (its_port e port stands);
        joints = λ a b here. shared_joints (joint a b) here;
        all = λ a b here inside. shared_known (joint a b) here;
        serving = λ x there. subst Serves (the_serving x there) (less, (1, refl, refl));
        unused = λ x i j there. subst Unused (the_serving x there) its_unused i j;
      }

  share_is_loyal : IsLoyal 1 Com n shared
  share_is_loyal s w u xs slot idle runs keep does low = behind_is_loyal 1 Com n shared skip_plan behind skip_is_regular xs slot s w u idle runs keep low does

  module _ (regular : BehindIsRegular) where
    shared_is_regular : IsRegular shared
    shared_is_regular = regular 1 Com n shared skip_plan behind skip_fits skip_is_regular

    its_loyal : Loyal (record { part = 1; ty = Com; side = n })
    its_loyal i number =
        let one : 1 ≡ i = same_Some 1 i number in
        subst (λ (m : ℕ). IsLoyal m Com n shared) one share_is_loyal

    shared_is_side : IsSide one_skip_plan n (shared_side n)
    shared_is_side =
        record {
          region = shared_region;
          regular = shared_is_regular;
          loyal = λ x i there. subst Loyal (the_serving x there) its_loyal i;
          result = λ h stands.
              (let same : ResultEnd 0 ≡ ResultEnd h = its_port (ResultEnd h) tt stands in
              let zero_is : 0 ≡ h = cc same in
              let sum : n ≡ n + h = omega (arith, zero_is) in ap ResultEnd sum);
          imports = λ x has. absurd (no_import x has);
          names = tt;
          ports = λ i h stands. (let clash : ResultEnd 0 ≡ ImportEnd i h = its_port (ImportEnd i h) tt stands in absurd (cc clash));
          heard = λ i h m k x stands outer there role.
              (let clash : ResultEnd 0 ≡ ImportEnd i h = its_port (ImportEnd i h) tt stands in absurd (cc clash));
        }

abbrev EitherShared : Joint → Type 0
EitherShared j = IsOfSide (shared_side 0) j.asking j.serving ⊎ IsOfSide (shared_side 1) j.asking j.serving

of_shared : (j : Joint) → Contains one_skip_plan.joints j → EitherShared j
of_shared j (zero, l, e) = subst EitherShared e (inl (PartEnd 1 0, PartEnd 0 0, (0, omega arith, refl), refl, refl))
of_shared j (suc zero, l, e) = subst EitherShared e (inl (ResultEnd 0, PartEnd 1 1, (1, omega arith, refl), refl, refl))
of_shared j (suc (suc zero), l, e) = subst EitherShared e (inr (ResultEnd 0, PartEnd 1 2, (1, omega arith, refl), refl, refl))
of_shared j (suc (suc (suc n)), l, e) = absurd (omega (arith, l))

pub shared_are_both : LiesBehind → BehindIsRegular → SharedAreBoth
shared_are_both lies regular =
    record {
      outcome = refl;
      names = tt;
      first = shared_is_side 0 (omega arith) lies regular;
      first_type = refl;
      second = shared_is_side 1 (omega arith) lies regular;
      second_type = refl;
      joints = λ c d here. of_shared (joint c d) here;
    }
