-- Joined to a plan of an argument, the plan of `fun a : com . a` is that plan, but for the order of its joints.
--
-- A place of the function's plan leads home to the argument's result (`home`). So a path goes to and fro along one joint of
-- the argument's plan.
use Rattle.std.specs.Prelude.{◌≡◌, ℕ, zero, suc, ◌+◌, ◌-◌, Bool, true, false, List, [], ◌++◌, ◌⊎◌, length, map, Option, Some, None, Contains, slice_get, nat_lt}
use Rattle.std.proofs.Common.{refl, sym, ◌∙◌, ap, subst, arith, inl, inr}
use Rattle.std.proofs.lemmas.Bool.Decides.{nat_tests}
use Rattle.std.proofs.lemmas.List.{append-nil}
use Rattle.std.proofs.lemmas.Option.{slice_get_past, none-some}
use Rattle.gos_types.specs.Types.{Type', Com, Fun}
use Rattle.gos_model.specs.Terms.{Term, App, Lam, Bound}
use Rattle.gos_model.specs.Typing.{Imported, Typed, Apart}
use Rattle.gos_plan.specs.Kinds.{Part, Contact, asks, serves, contacts_of}
use Rattle.gos_plan.specs.Plans.{End, PartEnd, ImportEnd, ResultEnd, Joint, Plan, contact_at, contacts_of_part, contacts_of_import, turned_if, IsRight}
use Rattle.gos_plan.specs.Joining.{Place, place, Link, Wiring, JoinedWithin, Linked, Path, Connects, all_left, left_place, origin, IsJoining}
use Rattle.gos_plan.specs.SmallPlans.{same_plan}
use Rattle.gos_plan.proofs.ContactLemmas.{asks_is_not_serves}
use Rattle.gos_realises.specs.realises.Wirings.{link, applying}
use Rattle.gos_realises.specs.realises.Realises.{AllPorts, NamesDiffer, Means}
use Rattle.gos_realises.specs.realises.Renumbered.{IsRenumbered}
use Rattle.gos_realises.specs.realises.Functions.{SameIsRealised}
use Rattle.gos_realises.proofs.realises.LiteralLemmas.{no_literals, literals_same}
use Rattle.gos_realises.proofs.realises.AloneLemmas.{Ends, Joins, joint_fits, one_more, in_place}
use Rattle.gos_realises.proofs.realises.HeadLemmas.{heads_are_realised}
use Rattle.gos_realises.proofs.realises.LeftLemmas.{left_list, left_all, imports_left, left_at}
use Rattle.gos_realises.proofs.realises.RenumberLemmas.{renumbering_keeps}
use Rattle.gos_realises.proofs.realises.SameTurnLemmas.{same_is_regular}
use Rattle.gos_realises.proofs.realises.UseLemmas.{Reach, follow}

module _ (q : Plan) (right : IsRight q) (outcome : q.outcome ≡ Com) where
  abbrev wiring : Wiring
  wiring = applying Com Com same_plan q

  -- where a place leads in the argument's plan
  abbrev home_of : ℕ → End → End
  home_of zero e = ResultEnd 0
  home_of (suc k) e = e

  abbrev home : Place → End
  home a = home_of a.plan a.end

  abbrev Near : End → End → Type 0
  Near a b = (a ≡ b) ⊎ Joins q right a b

  joint_near : (k : ℕ) (a b : End) (p : Plan) (j : Joint) → slice_get wiring.plans k ≡ Some p → Contains p.joints j → Ends a b j
      → Near (home_of k a) (home_of k b)
  joint_near zero a b p j is has ends = inl refl
  joint_near (suc zero) a b p j is has ends =
      let same : q ≡ p = cc is in inr (j, subst (λ (x : Plan). Contains x.joints j) (sym same) has, ends)
  joint_near (suc (suc k)) a b p j is has ends = absurd (cc is)

  link_near : (a b : Place) → Linked wiring a b → home a ≡ home b
  link_near a b (l, (zero, m, e), ways) =
      by_way (subst (λ (x : Link). ((a ≡ x.one) × (b ≡ x.other)) ⊎ ((a ≡ x.other) × (b ≡ x.one))) (sym e) ways)
    where
      by_way : ((a ≡ place 0 (ResultEnd 0)) × (b ≡ place 1 (ResultEnd 0))) ⊎ ((a ≡ place 1 (ResultEnd 0)) × (b ≡ place 0 (ResultEnd 0))) → home a ≡ home b
      by_way (inl (f, g)) = ap (λ x. home x) f ∙ sym (ap (λ x. home x) g)
      by_way (inr (f, g)) = ap (λ x. home x) f ∙ sym (ap (λ x. home x) g)
  link_near a b (l, (suc n, m, e), ways) = absurd (omega (arith, m))

  then_near : (a c b : End) → Near a c → Near c b → Near a b
  then_near a c b (inl e) rest = subst (λ x. Near x b) (sym e) rest
  then_near a c b (inr one) rest = one_more q right a c b one rest

  near_path : (n : ℕ) (a b : Place) → Path wiring n a b → Near (home a) (home b)
  near_path zero a b e = inl (ap (λ x. home x) e)
  near_path (suc n) a b (c, inl (p, j, same, is, has, ways), path) =
      then_near (home a) (home c) (home b)
      (subst (λ k. Near (home a) (home_of k c.end)) same (joint_near a.plan a.end c.end p j is has ways)) (near_path n c b path)
  near_path (suc n) a b (c, inr linked, path) = subst (λ x. Near x (home b)) (sym (link_near a c linked)) (near_path n c b path)

  -- where an end of the joining stands: in the argument's plan, or at the function's outcome
  abbrev Stands : End → Type 0
  Stands e = (origin wiring e ≡ place 1 e) ⊎ ((ResultEnd 0 ≡ e) × (origin wiring e ≡ place 0 (ResultEnd 1)))

  left : all_left wiring ≡ left_list 1 0 q.imports ++ []
  left = ap (λ l. l ++ []) (left_all wiring.links 1 (λ j. refl) 0 q.imports)

  at_part : (i h : ℕ) (c : Contact) → contact_at q (PartEnd i h) ≡ Some c → origin wiring (PartEnd i h) ≡ place 1 (PartEnd i h)
  at_part i h c there = by_test (nat_lt i (length q.parts)) refl
    where
      by_test : (b : Bool) → nat_lt i (length q.parts) ≡ b → origin wiring (PartEnd i h) ≡ place 1 (PartEnd i h)
      by_test true t =
          let first : nat_lt i 0 ≡ false = grind (arith, nat_tests) in
          let less : i - 0 ≡ i = omega arith in
          rw (first, less, t) refl
      by_test false t =
          let none : slice_get q.parts i ≡ None = slice_get_past q.parts i (grind (arith, nat_tests, t)) in
          absurd (none-some c (sym (ap (λ (k : Option Part). slice_get (contacts_of_part k) h) none) ∙ there))

  at_import : (i h : ℕ) (c : Contact) → contact_at q (ImportEnd i h) ≡ Some c → origin wiring (ImportEnd i h) ≡ place 1 (ImportEnd i h)
  at_import i h c there = by_import (slice_get q.imports i) refl
    where
      by_import : (o : Option Imported) → slice_get q.imports i ≡ o → origin wiring (ImportEnd i h) ≡ place 1 (ImportEnd i h)
      by_import None e = absurd (none-some c (sym (ap (λ (k : Option Imported). slice_get (contacts_of_import k) h) e) ∙ there))
      by_import (Some x) e =
          let number : 0 + i ≡ i = omega arith in
          ap (λ ls. left_place (slice_get ls i) h) left ∙ (ap (λ o. left_place o h) (left_at 1 0 q.imports i x e) ∙ ap (λ k. place 1 (ImportEnd k h)) number)

  stands : (e : End) (c : Contact) → contact_at q e ≡ Some c → Stands e
  stands (PartEnd i h) c there = inl (at_part i h c there)
  stands (ImportEnd i h) c there = inl (at_import i h c there)
  stands (ResultEnd zero) c there = inr (refl, refl)
  stands (ResultEnd (suc h)) c there =
      let none : None ≡ Some c = sym (ap (λ (t : Type'). turned_if (slice_get (contacts_of t) (suc h))) outcome) ∙ there in absurd (none-some c none)

  leads_home : (e : End) → Stands e → home (origin wiring e) ≡ e
  leads_home e (inl at) = ap (λ x. home x) at
  leads_home e (inr (is, at)) = ap (λ x. home x) at ∙ is

  -- from the function's outcome to the argument's result, and back
  inward : Reach wiring (place 0 (ResultEnd 1)) (place 1 (ResultEnd 0))
  inward = (
    2,
    (
      place 0 (ResultEnd 0),
      inl (same_plan, record { asking = ResultEnd 1; serving = ResultEnd 0 }, refl, refl, (0, omega arith, refl), inl (refl, refl)),
      (place 1 (ResultEnd 0), inr (link 0 (ResultEnd 0) 1 (ResultEnd 0), (0, omega arith, refl), inl (refl, refl)), refl),
    ),
  )

  outward : Reach wiring (place 1 (ResultEnd 0)) (place 0 (ResultEnd 1))
  outward = (
    2,
    (
      place 0 (ResultEnd 0),
      inr (link 0 (ResultEnd 0) 1 (ResultEnd 0), (0, omega arith, refl), inr (refl, refl)),
      (place 0 (ResultEnd 1), inl (same_plan, record { asking = ResultEnd 1; serving = ResultEnd 0 }, refl, refl, (0, omega arith, refl), inr (refl, refl)), refl),
    ),
  )

  goes_in : (e : End) → Stands e → Reach wiring (origin wiring e) (place 1 e)
  goes_in e (inl at) = (0, at)
  goes_in e (inr (is, at)) =
      subst (λ x. Reach wiring x (place 1 e)) (sym at) (subst (λ d. Reach wiring (place 0 (ResultEnd 1)) (place 1 d)) is inward)

  goes_out : (e : End) → Stands e → Reach wiring (place 1 e) (origin wiring e)
  goes_out e (inl at) = (0, sym at)
  goes_out e (inr (is, at)) =
      subst (λ x. Reach wiring (place 1 e) x) (sym at) (subst (λ d. Reach wiring (place 1 d) (place 0 (ResultEnd 1))) is outward)

  module _ (r : Plan) (join : IsJoining wiring r) where
    same_parts : r.parts ≡ q.parts
    same_parts = join.parts ∙ append-nil q.parts

    same_imports : r.imports ≡ q.imports
    same_imports = join.imports ∙ (ap (map (λ l. l.import)) left ∙ imports_left 1 0 q.imports)

    same_outcome : r.outcome ≡ q.outcome
    same_outcome = join.outcome ∙ sym outcome

    same_contact : (e : End) → contact_at r e ≡ contact_at q e
    same_contact (PartEnd i h) = ap (λ (ks : List Part). slice_get (contacts_of_part (slice_get ks i)) h) same_parts
    same_contact (ImportEnd i h) = ap (λ (is : List Imported). slice_get (contacts_of_import (slice_get is i)) h) same_imports
    same_contact (ResultEnd h) = ap (λ (t : Type'). turned_if (slice_get (contacts_of t) h)) same_outcome

    near_ends : (a b : End) → Connects wiring r a b → Near a b
    near_ends a b (x, v, n, asked, served, path) =
        let one = leads_home a (stands a (asks x v) (sym (same_contact a) ∙ asked)) in
        let other = leads_home b (stands b (serves x v) (sym (same_contact b) ∙ served)) in
        subst (λ d. Near d b) one (subst (λ e. Near (home (origin wiring a)) e) other (near_path n (origin wiring a) (origin wiring b) path))

    asks_first : (a b : End) → Connects wiring r a b → Near a b → Contains q.joints (record { asking = a; serving = b })
    asks_first a b (x, v, n, asked, served, path) (inl e) = absurd (asks_is_not_serves x v x v (sym asked ∙ (ap (contact_at r) e ∙ served)))
    asks_first a b (x, v, n, asked, served, path) (inr (j, has, inl (e, f))) =
        subst (λ (k : Joint). Contains q.joints k) (λ i. record { asking = sym e i; serving = sym f i }) has
    asks_first a b (x, v, n, asked, served, path) (inr (j, has, inr (e, f))) =
        let (y, z, j_asked, j_served) = joint_fits q right j has in
        absurd (asks_is_not_serves x v y z (sym asked ∙ (same_contact a ∙ (ap (contact_at q) e ∙ j_served))))

    from_joint : (a b : End) → Contains q.joints (record { asking = a; serving = b }) → Connects wiring r a b
    from_joint a b has =
        let (x, v, asked, served) = joint_fits q right (record { asking = a; serving = b }) has in
        let step : JoinedWithin wiring (place 1 a) (place 1 b) = (q, record { asking = a; serving = b }, refl, refl, has, inl (refl, refl)) in
        let (k, into) = goes_in a (stands a (asks x v) asked) in
        let whole =
        follow wiring k (origin wiring a) (place 1 a) (origin wiring b) into
        (follow wiring 1 (place 1 a) (place 1 b) (origin wiring b) (place 1 b, inl step, refl) (goes_out b (stands b (serves x v) served))) in
        (x, v, whole.0, same_contact a ∙ asked, same_contact b ∙ served, whole.1)

    renumbered : IsRenumbered (λ i. i) (λ i. i) r q
    renumbered =
        in_place q r right join.right same_parts same_imports same_outcome
        (λ j. (
          λ has. let connects = (join.joints j.asking j.serving).0 has in asks_first j.asking j.serving connects (near_ends j.asking j.serving connects),
          λ has. (join.joints j.asking j.serving).1 (from_joint j.asking j.serving has),
        ))

-- nothing is free in `fun a : com . a`
none_free : (n : Term) → Apart (Lam Com (Bound 0)) n
none_free n t (k, within, e) other = omega (arith, within)

same_means : Means (Fun Com Com) same_plan (Lam Com (Bound 0))
same_means q r n other suits means joined =
    let join = joined.joining in
    let imports = sym (same_imports q suits.right suits.outcome r join) in
    let keeps = renumbering_keeps (λ i. i) (λ i. i) r q (renumbered q suits.right suits.outcome r join) in (
      record {
        right = join.right;
        literals = literals_same r.parts q.parts (same_parts q suits.right suits.outcome r join) suits.literals;
        outcome = join.outcome;
        all_ports = subst AllPorts imports suits.all_ports;
        names = subst NamesDiffer imports suits.names;
        typed = (Com, (Com, refl, refl), subst (λ is. Typed is [] n Com) imports suits.typed, none_free n);
        regular = keeps.0 suits.regular;
      },
      heads_are_realised r (App (Lam Com (Bound 0)) n) n (Com, Bound 0, refl, refl) (keeps.1 n means),
    )

pub same_is_realised : SameIsRealised
same_is_realised =
    record {
      suits =
          record {
            right = (((0, 0, refl, refl), refl, refl), tt);
            literals = no_literals;
            outcome = refl;
            all_ports = tt;
            names = tt;
            typed = (Com, refl, refl);
            regular = same_is_regular;
          };
      means = same_means;
    }
