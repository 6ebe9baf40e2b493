-- The joining of one plan without links is that plan, but for the order of its joints.
--
-- A path in a plan whose joints are right goes to and fro along one joint (`short`).
use Rattle.std.specs.Prelude.{◌≡◌, ◌↔◌, ℕ, zero, suc, ◌+◌, Bool, true, false, List, [], ◌++◌, ◌⊎◌, length, map, Option, Some, None, Contains, slice_get, nat_lt}
use Rattle.std.proofs.Common.{refl, sym, ◌∙◌, ap, subst, arith, inl, inr}
use Rattle.std.proofs.lemmas.Bool.Decides.{nat_tests}
use Rattle.std.proofs.lemmas.List.{append-nil}
use Rattle.std.proofs.lemmas.Option.{slice_get_past, none-some}
use Rattle.gos_types.specs.Types.{Type'}
use Rattle.gos_model.specs.Typing.{Imported}
use Rattle.gos_plan.specs.Kinds.{Part, Contact, asks, serves, contacts_of}
use Rattle.gos_plan.specs.Plans.{End, PartEnd, ImportEnd, ResultEnd, Joint, Plan, contact_at, contacts_of_part, contacts_of_import, turned_if, same_end, stands_in, Fits, IsRight}
use Rattle.gos_plan.specs.Tokens.{places_of}
use Rattle.gos_plan.specs.Joining.{Place, place, Wiring, JoinedWithin, Linked, Path, Connects, all_left, left_place, origin, IsJoining}
use Rattle.gos_plan.proofs.JointLemmas as joints
use Rattle.gos_plan.proofs.JointLemmas.{same_itself, one_joint, contained, stands_there, found, listed, ends_are_apart}
use Rattle.gos_plan.proofs.ContactLemmas.{asks_is_not_serves}
use Rattle.gos_realises.specs.realises.Wirings.{side}
use Rattle.gos_realises.specs.realises.Renumbered.{moved, moved_if, IsRenumbered}
use Rattle.gos_realises.specs.realises.Alone.{AloneIsItself, OrderIsFree}
use Rattle.gos_realises.proofs.realises.LeftLemmas.{left_list, left_all, imports_left, left_at}
use Rattle.gos_realises.proofs.realises.RenumberLemmas.{renumbering_keeps}

-- the two ways of a joint
abbrev pub Ends : End → End → Joint → Type 0
Ends a b j = ((a ≡ j.asking) × (b ≡ j.serving)) ⊎ ((a ≡ j.serving) × (b ≡ j.asking))

pub first_stands : (a b : End) (j : Joint) → Ends a b j → stands_in a j ≡ true
first_stands a b j (inl (e, f)) =
    let t : same_end a j.asking ≡ true = subst (λ x. same_end a x ≡ true) e (same_itself a) in grind (arith, t)
first_stands a b j (inr (e, f)) =
    let t : same_end a j.serving ≡ true = subst (λ x. same_end a x ≡ true) e (same_itself a) in grind (arith, t)

turned_ends : (a b : End) (j : Joint) → Ends a b j → Ends b a j
turned_ends a b j (inl (e, f)) = inr (f, e)
turned_ends a b j (inr (e, f)) = inl (f, e)

-- to and fro along one joint
pub back_again : (p : Plan) (j : Joint) → Fits p j → (a c b : End) → Ends a c j → Ends c b j → a ≡ b
back_again p j fit a c b (inl (e, f)) (inl (g, h)) = absurd (ends_are_apart p j fit (sym g ∙ f))
back_again p j fit a c b (inl (e, f)) (inr (g, h)) = e ∙ sym h
back_again p j fit a c b (inr (e, f)) (inl (g, h)) = e ∙ sym h
back_again p j fit a c b (inr (e, f)) (inr (g, h)) = absurd (ends_are_apart p j fit (sym f ∙ g))

module _ (p : Plan) (right : IsRight p) where
  abbrev alone : Wiring
  alone = side 0 p.outcome p

  -- a joint of the plan has these ends
  abbrev pub Joins : End → End → Type 0
  Joins a b = (j : Joint) × Contains p.joints j × Ends a b j

  pub joint_fits : (j : Joint) → Contains p.joints j → Fits p j
  joint_fits j has = joints.fits p [] p.joints j right (contained p.joints j has)

  to_and_fro : (a c b : End) → Joins a c → Joins c b → a ≡ b
  to_and_fro a c b (j, has, one) (k, also, other) =
      let same : k ≡ j =
      one_joint p [] p.joints k j c right (contained p.joints k also) (contained p.joints j has) (first_stands c b k other)
      (first_stands c a j (turned_ends a c j one)) in
      back_again p j (joint_fits j has) a c b one (subst (Ends c b) same other)

  -- two places of a path
  abbrev Near : Place → Place → Type 0
  Near a b = (a.plan ≡ b.plan) × ((a.end ≡ b.end) ⊎ Joins a.end b.end)

  joins_within : (k : ℕ) (q : Plan) (a b : End) (j : Joint) → slice_get alone.plans k ≡ Some q → Contains q.joints j → Ends a b j → Joins a b
  joins_within zero q a b j is has ends = let same : p ≡ q = cc is in (j, subst (λ (x : Plan). Contains x.joints j) (sym same) has, ends)
  joins_within (suc k) q a b j is has ends = absurd (cc is)

  no_link : (a b : Place) → Linked alone a b → ⊥
  no_link a b (l, (n, within, e), ways) = omega (arith, within)

  pub one_more : (a c b : End) → Joins a c → (c ≡ b) ⊎ Joins c b → (a ≡ b) ⊎ Joins a b
  one_more a c b one (inl e) = inr (subst (Joins a) e one)
  one_more a c b one (inr other) = inl (to_and_fro a c b one other)

  short : (n : ℕ) (a b : Place) → Path alone n a b → Near a b
  short zero a b e = (ap (λ x. x.plan) e, inl (ap (λ x. x.end) e))
  short (suc n) a b (c, inr linked, path) = absurd (no_link a c linked)
  short (suc n) a b (c, inl (q, j, same, is, has, ways), path) =
      let (also, rest) = short n c b path in
      (same ∙ also, one_more a.end c.end b.end (joins_within a.plan q a.end c.end j is has ways) rest)

  -- where the ends stand
  left_alone : all_left alone ≡ left_list 0 0 p.imports ++ []
  left_alone = ap (λ l. l ++ []) (left_all [] 0 (λ j. refl) 0 p.imports)

  at_part : (i h : ℕ) (c : Contact) → contact_at p (PartEnd i h) ≡ Some c → origin alone (PartEnd i h) ≡ place 0 (PartEnd i h)
  at_part i h c there = by_test (nat_lt i (length p.parts)) refl
    where
      by_test : (b : Bool) → nat_lt i (length p.parts) ≡ b → origin alone (PartEnd i h) ≡ place 0 (PartEnd i h)
      by_test true t = rw t refl
      by_test false t =
          let none : slice_get p.parts i ≡ None = slice_get_past p.parts i (grind (arith, nat_tests, t)) in
          absurd (none-some c (sym (ap (λ (k : Option Part). slice_get (contacts_of_part k) h) none) ∙ there))

  at_import : (i h : ℕ) (c : Contact) → contact_at p (ImportEnd i h) ≡ Some c → origin alone (ImportEnd i h) ≡ place 0 (ImportEnd i h)
  at_import i h c there = by_import (slice_get p.imports i) refl
    where
      by_import : (o : Option Imported) → slice_get p.imports i ≡ o → origin alone (ImportEnd i h) ≡ place 0 (ImportEnd i h)
      by_import None e = absurd (none-some c (sym (ap (λ (k : Option Imported). slice_get (contacts_of_import k) h) e) ∙ there))
      by_import (Some x) e =
          let number : 0 + i ≡ i = omega arith in
          ap (λ ls. left_place (slice_get ls i) h) left_alone ∙ (ap (λ o. left_place o h) (left_at 0 0 p.imports i x e) ∙ ap (λ k. place 0 (ImportEnd k h)) number)

  at_home : (e : End) (c : Contact) → contact_at p e ≡ Some c → origin alone e ≡ place 0 e
  at_home (PartEnd i h) c there = at_part i h c there
  at_home (ImportEnd i h) c there = at_import i h c there
  at_home (ResultEnd h) c there = let number : 0 + h ≡ h = omega arith in ap (λ k. place 0 (ResultEnd k)) number

  module _ (r : Plan) (join : IsJoining alone r) where
    same_parts : r.parts ≡ p.parts
    same_parts = join.parts ∙ append-nil p.parts

    same_imports : r.imports ≡ p.imports
    same_imports = join.imports ∙ (ap (map (λ l. l.import)) left_alone ∙ imports_left 0 0 p.imports)

    same_contact : (e : End) → contact_at r e ≡ contact_at p e
    same_contact (PartEnd i h) = ap (λ (ks : List Part). slice_get (contacts_of_part (slice_get ks i)) h) same_parts
    same_contact (ImportEnd i h) = ap (λ (is : List Imported). slice_get (contacts_of_import (slice_get is i)) h) same_imports
    same_contact (ResultEnd h) = ap (λ (t : Type'). turned_if (slice_get (contacts_of t) h)) join.outcome

    near_ends : (a b : End) → Connects alone r a b → Near (place 0 a) (place 0 b)
    near_ends a b (q, v, n, asked, served, path) =
        let one = at_home a (asks q v) (sym (same_contact a) ∙ asked) in
        let other = at_home b (serves q v) (sym (same_contact b) ∙ served) in
        short n (place 0 a) (place 0 b) (subst (λ x. Path alone n x (place 0 b)) one (subst (λ y. Path alone n (origin alone a) y) other path))

    asks_first : (a b : End) → Connects alone r a b → (a ≡ b) ⊎ Joins a b → Contains p.joints (record { asking = a; serving = b })
    asks_first a b (q, v, n, asked, served, path) (inl e) =
        absurd (asks_is_not_serves q v q v (sym asked ∙ (ap (contact_at r) e ∙ served)))
    asks_first a b (q, v, n, asked, served, path) (inr (j, has, inl (e, f))) =
        subst (λ (x : Joint). Contains p.joints x) (λ i. record { asking = sym e i; serving = sym f i }) has
    asks_first a b (q, v, n, asked, served, path) (inr (j, has, inr (e, f))) =
        let (x, y, j_asked, j_served) = joint_fits j has in
        absurd (asks_is_not_serves q v x y (sym asked ∙ (same_contact a ∙ (ap (contact_at p) e ∙ j_served))))

    from_joint : (a b : End) → Contains p.joints (record { asking = a; serving = b }) → Connects alone r a b
    from_joint a b has =
        let (q, v, asked, served) = joint_fits (record { asking = a; serving = b }) has in
        let step : JoinedWithin alone (place 0 a) (place 0 b) = (p, record { asking = a; serving = b }, refl, refl, has, inl (refl, refl)) in
        let path : Path alone 1 (place 0 a) (place 0 b) = (place 0 b, inl step, refl) in (
          q,
          v,
          1,
          same_contact a ∙ asked,
          same_contact b ∙ served,
          subst (λ x. Path alone 1 x (origin alone b)) (sym (at_home a (asks q v) asked))
              (subst (λ y. Path alone 1 (place 0 a) y) (sym (at_home b (serves q v) served)) path),
        )

    same_joints : (a b : End) → (Contains r.joints (record { asking = a; serving = b }) → Contains p.joints (record { asking = a; serving = b }))
        × (Contains p.joints (record { asking = a; serving = b }) → Contains r.joints (record { asking = a; serving = b }))
    same_joints a b = (
      λ has. let connects = (join.joints a b).0 has in asks_first a b connects (near_ends a b connects).1,
      λ has. (join.joints a b).1 (from_joint a b has),
    )

pub alone_is_itself : AloneIsItself
alone_is_itself p r right join =
    record {
      parts = same_parts p right r join;
      imports = same_imports p right r join;
      outcome = join.outcome;
      weight = join.weight ∙ (let sum : p.weight + 0 ≡ p.weight = omega arith in sum);
      joints = λ j. same_joints p right r join j.asking j.serving;
    }

-- places by the joints alone
module _
    (p r : Plan) (right : IsRight p) (also_right : IsRight r) (parts : r.parts ≡ p.parts) (imports : r.imports ≡ p.imports)
    (outcome : r.outcome ≡ p.outcome) (joints_same : (j : Joint) → Contains r.joints j ↔ Contains p.joints j) where
  same_place : (e : End) → places_of p e ≡ places_of r e
  same_place e = by_place (places_of p e) refl
    where
      none_there : (o : Option End) → places_of p e ≡ None → places_of r e ≡ o → None ≡ o
      none_there None none there = refl
      none_there (Some a) none there =
          let f = found r.joints e a there in
          let has = contained p.joints f.joint ((joints_same f.joint).0 (listed r.joints f.joint f.is_in)) in
          absurd (none-some f.joint.asking (sym none ∙ stands_there p f.joint e right has f.stands))

      by_place : (o : Option End) → places_of p e ≡ o → o ≡ places_of r e
      by_place None none = none_there (places_of r e) none refl
      by_place (Some a) there =
          let f = found p.joints e a there in
          let has = contained r.joints f.joint ((joints_same f.joint).1 (listed p.joints f.joint f.is_in)) in
          sym (stands_there r f.joint e also_right has f.stands ∙ ap Some f.named)

  itself : (e : End) → moved (λ i. i) e ≡ e
  itself (PartEnd i h) = refl
  itself (ImportEnd i h) = refl
  itself (ResultEnd h) = refl

  itself_if : (o : Option End) → moved_if (λ i. i) o ≡ o
  itself_if None = refl
  itself_if (Some e) = ap Some (itself e)

  pub in_place : IsRenumbered (λ i. i) (λ i. i) r p
  in_place =
      record {
        returns = λ i. refl;
        comes = λ i. refl;
        parts = λ i. ap (λ (ks : List Part). slice_get ks i) (sym parts);
        imports = sym imports;
        outcome = sym outcome;
        places = λ e. ap (places_of p) (itself e) ∙ (same_place e ∙ sym (itself_if (places_of r e)));
      }

pub order_is_free : OrderIsFree
order_is_free p r right also_right same = renumbering_keeps (λ i. i) (λ i. i) r p (in_place p r right also_right same.parts same.imports same.outcome same.joints)
