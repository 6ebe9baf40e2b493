-- A plan to which plans without imports are joined, the first of which gives the result: where the ends of the joining stand,
-- and how its joints come from the plan's.
use Rattle.std.specs.Prelude.{◌+◌, ◌-◌, ◌<◌, ◌≤◌, None, nat_lt, slice_get, length, map}
use Rattle.std.proofs.Common.{◌≡◌, ℕ, zero, suc, Bool, true, false, List, [], ◌∷◌, ◌++◌, Option, Some, Contains, inl, inr, refl, sym, ◌∙◌, ap, subst, arith}
use Rattle.std.proofs.lemmas.Bool.Decides.{nat_tests}
use Rattle.std.proofs.lemmas.Option.{slice_get_within, none-some}
use Rattle.gos_types.specs.Types.{Type', Var}
use Rattle.gos_model.specs.Typing.{Imported}
use Rattle.gos_plan.specs.Kinds.{Contact, asks, serves, Part, contacts_of}
use Rattle.gos_plan.specs.Plans.{End, PartEnd, ImportEnd, ResultEnd, Plan, contact_at, contacts_of_part, contacts_of_import, turned_if, IsRight}
use Rattle.gos_plan.specs.Joining.{Place, place, Link, Wiring, all_parts, left_among, all_left, part_place, left_place, is_joined, origin, JoinedWithin, Connects, IsJoining}
use Rattle.gos_plan.proofs.JointLemmas.{IsIn, fits}
use Rattle.gos_realises.specs.realises.Wirings.{lone, link}
use Rattle.gos_realises.proofs.realises.LeftLemmas.{left_list, left_all, imports_left, left_at}
use Rattle.gos_joining.specs.webs.Webs.{joint}
use Rattle.gos_joining.proofs.webs.MovedLemmas.{listed}
use Rattle.gos_sharing.proofs.buffers.HousedLemmas.{not_both}
use Rattle.gos_sharing.proofs.buffers.DrivenLemmas.{IsPlain, before_end, past_end}

-- the plans and the links: the others have no imports, and no link joins an import of the plan
pub record Attached : Type 0 where
  pub plan : Plan
  pub others : List Plan
  pub links : List Link
  pub outcome : Type'
  pub free : (i : ℕ) → is_joined links 0 i ≡ false
  pub alone : left_among links 1 others ≡ []

abbrev pub wiring_of : Attached → Wiring
wiring_of a = record { plans = a.plan ∷ a.others; links = a.links; giver = 1; skipped = 0; outcome = a.outcome }

module _ (a : Attached) where
  abbrev number : ℕ
  number = length a.plan.parts

  left_imports : all_left (wiring_of a) ≡ left_list 0 0 a.plan.imports ++ []
  left_imports =
      ap (λ l. l ++ left_among a.links 1 a.others) (left_all a.links 0 a.free 0 a.plan.imports) ∙ ap (λ l. left_list 0 0 a.plan.imports ++ l) a.alone

  pub plan_imports : map (λ l. l.import) (all_left (wiring_of a)) ≡ a.plan.imports
  plan_imports = ap (map (λ l. l.import)) left_imports ∙ imports_left 0 0 a.plan.imports

  pub part_first : (i h : ℕ) → i < number → origin (wiring_of a) (PartEnd i h) ≡ place 0 (PartEnd i h)
  part_first i h lt = let t : nat_lt i number ≡ true = grind (arith, nat_tests, lt) in rw t refl

  pub part_later : (i j h : ℕ) → i ≡ number + j → origin (wiring_of a) (PartEnd i h) ≡ part_place 1 a.others j h
  part_later i j h is =
      let t : nat_lt i number ≡ false = grind (arith, nat_tests, is) in
      let e : i - number ≡ j = omega (arith, is) in
      rw (t, e) refl

  pub at_import : (i h : ℕ) (x : Imported) → slice_get a.plan.imports i ≡ Some x → origin (wiring_of a) (ImportEnd i h) ≡ place 0 (ImportEnd i h)
  at_import i h x is =
      let e : 0 + i ≡ i = omega arith in
      ap (λ ls. left_place (slice_get ls i) h) left_imports
      ∙ (ap (λ o. left_place o h) (left_at 0 0 a.plan.imports i x is) ∙ ap (λ k. place 0 (ImportEnd k h)) e)

  pub at_result : (h : ℕ) → origin (wiring_of a) (ResultEnd h) ≡ place 1 (ResultEnd h)
  at_result h = let e : 0 + h ≡ h = omega arith in ap (λ k. place 1 (ResultEnd k)) e

  -- an end of the plan that isn't its result's stands where it did
  pub plain_origin : (e : End) (k : Contact) → contact_at a.plan e ≡ Some k → IsPlain e → origin (wiring_of a) e ≡ place 0 e
  plain_origin (PartEnd i h) k there plain = by_part (slice_get a.plan.parts i) refl
    where
      by_part : (o : Option Part) → slice_get a.plan.parts i ≡ o → origin (wiring_of a) (PartEnd i h) ≡ place 0 (PartEnd i h)
      by_part None e = absurd (none-some k (sym (ap (λ x. slice_get (contacts_of_part x) h) e) ∙ there))
      by_part (Some x) e = part_first i h (slice_get_within a.plan.parts i x e)
  plain_origin (ImportEnd i h) k there plain = by_import (slice_get a.plan.imports i) refl
    where
      by_import : (o : Option Imported) → slice_get a.plan.imports i ≡ o → origin (wiring_of a) (ImportEnd i h) ≡ place 0 (ImportEnd i h)
      by_import None e = absurd (none-some k (sym (ap (λ x. slice_get (contacts_of_import x) h) e) ∙ there))
      by_import (Some x) e = at_import i h x e
  plain_origin (ResultEnd h) k there plain = absurd plain

  pub one_step : (d e : End) → IsIn (joint d e) a.plan.joints → JoinedWithin (wiring_of a) (place 0 d) (place 0 e)
  one_step d e here = (a.plan, joint d e, refl, refl, listed a.plan.joints (joint d e) here, inl (refl, refl))

-- a variable's plan and a joining of it
pub record Joined : Type 0 where
  pub base : Attached
  pub width : ℕ
  pub whole : Plan
  pub right : IsRight base.plan
  pub typed : base.plan.outcome ≡ Var width
  pub join : IsJoining (wiring_of base) whole

-- where an end of the joining stands
pub data Stands (x : Joined) (e : End) : Type 0 where
  OfPlan : IsPlain e → origin (wiring_of x.base) e ≡ place 0 e → contact_at x.base.plan e ≡ contact_at x.whole e → Stands x e
  OfOther : (i j h : ℕ) → j < length (all_parts x.base.others) → i ≡ length x.base.plan.parts + j → e ≡ PartEnd i h → Stands x e
  OfResult : (h : ℕ) → e ≡ ResultEnd h → Stands x e

module _ (x : Joined) where
  abbrev wiring : Wiring
  wiring = wiring_of x.base

  abbrev plan : Plan
  plan = x.base.plan

  abbrev others_parts : List Part
  others_parts = all_parts x.base.others

  pub same_imports : x.whole.imports ≡ plan.imports
  same_imports = x.join.imports ∙ plan_imports x.base

  pub result_contact : (h : ℕ) → contact_at plan (ResultEnd h) ≡ turned_if (slice_get (contacts_of (Var x.width)) h)
  result_contact h = ap (λ (t : Type'). turned_if (slice_get (contacts_of t) h)) x.typed

  pub own_contact : (h : ℕ) → contact_at x.whole (ResultEnd h) ≡ turned_if (slice_get (contacts_of x.base.outcome) h)
  own_contact h = ap (λ (t : Type'). turned_if (slice_get (contacts_of t) h)) x.join.outcome

  part_contact : (i h : ℕ) → contact_at x.whole (PartEnd i h) ≡ slice_get (contacts_of_part (slice_get (plan.parts ++ others_parts) i)) h
  part_contact i h = ap (λ (xs : List Part). slice_get (contacts_of_part (slice_get xs i)) h) x.join.parts

  pub other_contact : (i j h : ℕ) → i ≡ length plan.parts + j → contact_at x.whole (PartEnd i h) ≡ slice_get (contacts_of_part (slice_get others_parts j)) h
  other_contact i j h is = part_contact i h ∙ ap (λ y. slice_get (contacts_of_part y) h) (past_end plan.parts others_parts i j is)

  first_contact : (i h : ℕ) → i < length plan.parts → contact_at plan (PartEnd i h) ≡ contact_at x.whole (PartEnd i h)
  first_contact i h lt = sym (part_contact i h ∙ ap (λ y. slice_get (contacts_of_part y) h) (before_end plan.parts others_parts i lt))

  import_contact : (i h : ℕ) → contact_at plan (ImportEnd i h) ≡ contact_at x.whole (ImportEnd i h)
  import_contact i h = ap (λ xs. slice_get (contacts_of_import (slice_get xs i)) h) (sym same_imports)

  pub stands : (e : End) (k : Contact) → contact_at x.whole e ≡ Some k → Stands x e
  stands (PartEnd i h) k there = by_order (nat_lt i (length plan.parts)) refl
    where
      within : (j : ℕ) → i ≡ length plan.parts + j → (o : Option Part) → slice_get others_parts j ≡ o → j < length others_parts
      within j is None none = absurd (none-some k (sym (other_contact i j h is ∙ ap (λ y. slice_get (contacts_of_part y) h) none) ∙ there))
      within j is (Some y) at = slice_get_within others_parts j y at

      by_order : (b : Bool) → nat_lt i (length plan.parts) ≡ b → Stands x (PartEnd i h)
      by_order true t =
          let lt : i < length plan.parts = grind (arith, nat_tests, t) in OfPlan tt (part_first x.base i h lt) (first_contact i h lt)
      by_order false t =
          let le : length plan.parts ≤ i = grind (arith, nat_tests, t) in
          let is : i ≡ length plan.parts + (i - length plan.parts) = omega (arith, le) in
          OfOther i (i - length plan.parts) h (within (i - length plan.parts) is (slice_get others_parts (i - length plan.parts)) refl) is refl
  stands (ImportEnd i h) k there = by_import (slice_get plan.imports i) refl
    where
      by_import : (o : Option Imported) → slice_get plan.imports i ≡ o → Stands x (ImportEnd i h)
      by_import None e = absurd (none-some k (sym (ap (λ y. slice_get (contacts_of_import y) h) e) ∙ (import_contact i h ∙ there)))
      by_import (Some y) e = OfPlan tt (at_import x.base i h y e) (import_contact i h)
  stands (ResultEnd h) k there = OfResult h refl

  plain_contact : (e : End) (k : Contact) → contact_at plan e ≡ Some k → IsPlain e → contact_at plan e ≡ contact_at x.whole e
  plain_contact (PartEnd i h) k there plain = by_part (slice_get plan.parts i) refl
    where
      by_part : (o : Option Part) → slice_get plan.parts i ≡ o → contact_at plan (PartEnd i h) ≡ contact_at x.whole (PartEnd i h)
      by_part None e = absurd (none-some k (sym (ap (λ y. slice_get (contacts_of_part y) h) e) ∙ there))
      by_part (Some y) e = first_contact i h (slice_get_within plan.parts i y e)
  plain_contact (ImportEnd i h) k there plain = import_contact i h
  plain_contact (ResultEnd h) k there plain = absurd plain

  -- what serves in the plan is plain
  server_plain : (d e : End) → IsIn (joint d e) plan.joints → IsPlain e
  server_plain d (PartEnd i h) here = tt
  server_plain d (ImportEnd i h) here = tt
  server_plain d (ResultEnd h) here =
      let fit = fits plan [] plan.joints (joint d (ResultEnd h)) x.right here in not_served h fit.0 fit.1 (sym (result_contact h) ∙ fit.3)
    where
      not_served : (h q v : ℕ) → turned_if (slice_get (contacts_of (Var x.width)) h) ≡ Some (serves q v) → ⊥
      not_served zero q v e = let same : asks 0 x.width ≡ serves q v = cc e in not_both 0 x.width q v same
      not_served (suc zero) q v e = let same : asks x.width 0 ≡ serves q v = cc e in not_both x.width 0 q v same
      not_served (suc (suc h)) q v e = none-some (serves q v) e

  -- a joint of the plan whose ends are plain
  pub plain_connects : (d e : End) → IsIn (joint d e) plan.joints → IsPlain d → Connects wiring x.whole d e
  plain_connects d e here plain =
      let fit = fits plan [] plan.joints (joint d e) x.right here in
      let also = server_plain d e here in
      let at_d = plain_origin x.base d (asks fit.0 fit.1) fit.2 plain in
      let at_e = plain_origin x.base e (serves fit.0 fit.1) fit.3 also in (
        fit.0,
        fit.1,
        1,
        sym (plain_contact d (asks fit.0 fit.1) fit.2 plain) ∙ fit.2,
        sym (plain_contact e (serves fit.0 fit.1) fit.3 also) ∙ fit.3,
        (place 0 e, inl (subst (λ (y : Place). JoinedWithin wiring y (place 0 e)) (sym at_d) (one_step x.base d e here)), sym at_e),
      )

  -- a joint of the plan's result, whose handshake v is joined to handshake f of the first part of the others
  pub result_connects : (v f : ℕ) (e : End) → Contains x.base.links (link 0 (ResultEnd v) 1 (PartEnd 0 f))
      → part_place 1 x.base.others 0 f ≡ place 1 (PartEnd 0 f)
      → turned_if (slice_get (contacts_of (Var x.width)) v) ≡ slice_get (contacts_of_part (slice_get others_parts 0)) f
      → IsIn (joint (ResultEnd v) e) plan.joints → Connects wiring x.whole (PartEnd (length plan.parts) f) e
  result_connects v f e has first same here =
      let fit = fits plan [] plan.joints (joint (ResultEnd v) e) x.right here in
      let also = server_plain (ResultEnd v) e here in
      let at_e = plain_origin x.base e (serves fit.0 fit.1) fit.3 also in
      let at_end : length plan.parts ≡ length plan.parts + 0 = omega arith in (
        fit.0,
        fit.1,
        2,
        other_contact (length plan.parts) 0 f at_end ∙ (sym same ∙ (sym (result_contact v) ∙ fit.2)),
        sym (plain_contact e (serves fit.0 fit.1) fit.3 also) ∙ fit.3,
        (
          place 0 (ResultEnd v),
          inr (link 0 (ResultEnd v) 1 (PartEnd 0 f), has, inr (part_later x.base (length plan.parts) 0 f at_end ∙ first, refl)),
          (place 0 e, inl (one_step x.base (ResultEnd v) e here), sym at_e),
        ),
      )

  -- the joint of the result, where the first of the others is one part alone
  pub own_connects : (k : Part) (s q v : ℕ) → slice_get x.base.others 0 ≡ Some (lone k s x.base.outcome)
      → part_place 1 x.base.others 0 s ≡ place 1 (PartEnd 0 s)
      → contact_at x.whole (ResultEnd 0) ≡ Some (asks q v) → contact_at x.whole (PartEnd (length plan.parts) s) ≡ Some (serves q v)
      → Connects wiring x.whole (ResultEnd 0) (PartEnd (length plan.parts) s)
  own_connects k s q v is first there also =
      let at_end : length plan.parts ≡ length plan.parts + 0 = omega arith in (
        q,
        v,
        1,
        there,
        also,
        (
          place 1 (PartEnd 0 s),
          inl (lone k s x.base.outcome, joint (ResultEnd 0) (PartEnd 0 s), refl, is, (0, omega arith, refl), inl (refl, refl)),
          sym (part_later x.base (length plan.parts) 0 s at_end ∙ first),
        ),
      )
