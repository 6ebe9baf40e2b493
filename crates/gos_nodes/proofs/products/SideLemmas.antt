-- A side of the plan of a product, joined: its joints are those of the product that lead to no handshake of the other side.
--
-- A path of a right plan's joints goes to and fro along one of them.
use Rattle.std.specs.Prelude.{zero, suc, ◌+◌, ◌⊎◌, length, None, Contains, slice_get, nat_lt}
use Rattle.std.proofs.Common.{◌≡◌, ℕ, Bool, true, false, List, [], Option, Some, inl, inr, refl, sym, ◌∙◌, ap, subst, arith}
use Rattle.std.proofs.lemmas.Bool.Decides.{nat_tests}
use Rattle.std.proofs.lemmas.List.{append-nil}
use Rattle.std.proofs.lemmas.Option.{slice_get_within, none-some}
use Rattle.gos_types.specs.Types.{Type'}
use Rattle.gos_model.specs.Typing.{Imported}
use Rattle.gos_plan.specs.Kinds.{Part, Contact, asks, serves, contacts_of}
use Rattle.gos_plan.specs.Plans.{End, PartEnd, ImportEnd, ResultEnd, Joint, Plan, contact_at, contacts_of_part, contacts_of_import, turned_if, stands_in, Fits, IsRight}
use Rattle.gos_plan.specs.Joining.{Place, place, Wiring, JoinedWithin, Linked, LeftImport, Path, Connects, all_left, left_in, left_place, origin, IsJoining}
use Rattle.gos_plan.proofs.JointLemmas.{one_joint, contained, fits}
use Rattle.gos_plan.proofs.ContactLemmas.{asks_is_not_serves, part_is_there}
use Rattle.gos_realises.specs.realises.Wirings.{side}
use Rattle.gos_realises.proofs.realises.ToldLemmas.{there_is}
use Rattle.gos_realises.proofs.realises.AloneLemmas.{Ends, first_stands, back_again}
use Rattle.gos_joining.specs.webs.Webs.{joint}
use Rattle.gos_joining.proofs.webs.CutLemmas.{stands_by}
use Rattle.gos_supplies.proofs.applications.SeamLemmas.{left_none, listed, listed_at}
use Rattle.gos_supplies.proofs.applications.SideLemmas.{side_imports}

-- the two ways of a joint
stands_last : (a b : End) (j : Joint) → Ends a b j → stands_in b j ≡ true
stands_last a b j (inl (e, f)) = stands_by b j (inr f)
stands_last a b j (inr (e, f)) = stands_by b j (inl f)

module _ (n : ℕ) (t : Type') (p : Plan) (right : IsRight p) (r : Plan) (join : IsJoining (side n t p) r) where
  abbrev w : Wiring
  w = side n t p

  abbrev Joins : End → End → Type 0
  Joins a b = (j : Joint) × Contains p.joints j × Ends a b j

  joint_fits : (j : Joint) → Contains p.joints j → Fits p j
  joint_fits j has = fits p [] p.joints j right (contained p.joints j has)

  to_and_fro : (a c b : End) → Joins a c → Joins c b → a ≡ b
  to_and_fro a c b (j, has, one) (k, also, other) =
      let same : k ≡ j =
      one_joint p [] p.joints k j c right (contained p.joints k also) (contained p.joints j has) (first_stands c b k other) (stands_last a c j one) in
      back_again p j (joint_fits j has) a c b one (subst (Ends c b) same other)

  joins_within : (k : ℕ) (q : Plan) (a b : End) (j : Joint) → slice_get w.plans k ≡ Some q → Contains q.joints j → Ends a b j → Joins a b
  joins_within zero q a b j is has ends = let same : p ≡ q = cc is in (j, subst (λ (x : Plan). Contains x.joints j) (sym same) has, ends)
  joins_within (suc k) q a b j is has ends = absurd (cc is)

  no_link : (a b : Place) → Linked w a b → ⊥
  no_link a b (l, (k, within, e), ways) = omega (arith, within)

  one_more : (a c b : End) → Joins a c → (c ≡ b) ⊎ Joins c b → (a ≡ b) ⊎ Joins a b
  one_more a c b one (inl e) = inr (subst (Joins a) e one)
  one_more a c b one (inr other) = inl (to_and_fro a c b one other)

  short : (k : ℕ) (a b : Place) → Path w k a b → (a.end ≡ b.end) ⊎ Joins a.end b.end
  short zero a b e = inl (ap (λ (x : Place). x.end) e)
  short (suc k) a b (c, inr linked, path) = absurd (no_link a c linked)
  short (suc k) a b (c, inl (q, j, same, is, has, ways), path) =
      one_more a.end c.end b.end (joins_within a.plan q a.end c.end j is has ways) (short k c b path)

  -- where an end of the side stands in the product
  abbrev pub behind : End → End
  behind (PartEnd i h) = PartEnd i h
  behind (ImportEnd i h) = ImportEnd i h
  behind (ResultEnd h) = ResultEnd (n + h)

  pub same_parts : r.parts ≡ p.parts
  same_parts = join.parts ∙ append-nil p.parts

  pub same_imports : r.imports ≡ p.imports
  same_imports = side_imports t n p r join

  at_part : (i h : ℕ) (c : Contact) → contact_at r (PartEnd i h) ≡ Some c → origin w (PartEnd i h) ≡ place 0 (PartEnd i h)
  at_part i h c there = by_test (nat_lt i (length p.parts)) refl
    where
      by_test : (b : Bool) → nat_lt i (length p.parts) ≡ b → origin w (PartEnd i h) ≡ place 0 (PartEnd i h)
      by_test true t = rw t refl
      by_test false t =
          let (k, is) = part_is_there (slice_get r.parts i) h c there in
          let within = slice_get_within p.parts i k (ap (λ (ks : List Part). slice_get ks i) (sym same_parts) ∙ is) in
          let clash : ⊥ = grind (arith, nat_tests, t, within) in absurd clash

  side_left : all_left w ≡ listed 0 0 p.imports
  side_left = append-nil (left_in [] 0 0 p.imports) ∙ left_none [] 0 (λ j. refl) 0 p.imports

  at_import : (i h : ℕ) (c : Contact) → contact_at r (ImportEnd i h) ≡ Some c → origin w (ImportEnd i h) ≡ place 0 (ImportEnd i h)
  at_import i h c there =
      let (x, is) = there_is r.imports i h c there in
      let number : 0 + i ≡ i = omega arith in
      ap (λ (ls : List LeftImport). left_place (slice_get ls i) h) side_left
      ∙ (ap (λ (o : Option LeftImport). left_place o h) (listed_at 0 0 p.imports i x (ap (λ (xs : List Imported). slice_get xs i) (sym same_imports) ∙ is))
      ∙ ap (λ (k : ℕ). place 0 (ImportEnd k h)) number)

  at_home : (e : End) (c : Contact) → contact_at r e ≡ Some c → origin w e ≡ place 0 (behind e)
  at_home (PartEnd i h) c there = at_part i h c there
  at_home (ImportEnd i h) c there = at_import i h c there
  at_home (ResultEnd h) c there = refl

  -- and its handshake
  pub contact_behind : (e : End) (c : Contact) → contact_at r e ≡ Some c → contact_at p (behind e) ≡ Some c
  contact_behind (PartEnd i h) c there = ap (λ (ks : List Part). slice_get (contacts_of_part (slice_get ks i)) h) (sym same_parts) ∙ there
  contact_behind (ImportEnd i h) c there = ap (λ (xs : List Imported). slice_get (contacts_of_import (slice_get xs i)) h) (sym same_imports) ∙ there
  contact_behind (ResultEnd h) c there = by_own (slice_get (contacts_of t) h) refl (ap (λ (u : Type'). turned_if (slice_get (contacts_of u) h)) (sym join.outcome) ∙ there)
    where
      by_own : (o : Option Contact) → slice_get (contacts_of t) h ≡ o → turned_if o ≡ Some c → contact_at p (ResultEnd (n + h)) ≡ Some c
      by_own None none turned = absurd (none-some c turned)
      by_own (Some d) is turned = ap turned_if (join.result h d is) ∙ turned

  -- joints
  pub joint_behind : (a b : End) → Contains r.joints (joint a b) → Contains p.joints (joint (behind a) (behind b))
  joint_behind a b has = of_near (short connects.2 (place 0 (behind a)) (place 0 (behind b)) path)
    where
      connects : Connects w r a b
      connects = (join.joints a b).0 has

      path : Path w connects.2 (place 0 (behind a)) (place 0 (behind b))
      path =
          subst (λ (x : Place). Path w connects.2 x (place 0 (behind b))) (at_home a (asks connects.0 connects.1) connects.3)
          (subst (λ (y : Place). Path w connects.2 (origin w a) y) (at_home b (serves connects.0 connects.1) connects.4) connects.5)

      of_near : (behind a ≡ behind b) ⊎ Joins (behind a) (behind b) → Contains p.joints (joint (behind a) (behind b))
      of_near (inl e) =
          absurd
          (asks_is_not_serves connects.0 connects.1 connects.0 connects.1
          (sym (contact_behind a (asks connects.0 connects.1) connects.3) ∙ (ap (contact_at p) e ∙ contact_behind b (serves connects.0 connects.1) connects.4)))
      of_near (inr (j, in_joints, inl (e, f))) = subst (λ (x : Joint). Contains p.joints x) (λ i. joint (sym e i) (sym f i)) in_joints
      of_near (inr (j, in_joints, inr (e, f))) =
          let (x, y, j_asked, j_served) = joint_fits j in_joints in
          absurd
          (asks_is_not_serves connects.0 connects.1 x y
          (sym (contact_behind a (asks connects.0 connects.1) connects.3) ∙ (ap (contact_at p) e ∙ j_served)))

  pub from_behind : (a b : End) → Contains p.joints (joint (behind a) (behind b)) → contact_at r a ≡ contact_at p (behind a) → contact_at r b ≡ contact_at p (behind b)
      → Contains r.joints (joint a b)
  from_behind a b has first last =
      let (q, v, asked, served) = joint_fits (joint (behind a) (behind b)) has in
      let step : JoinedWithin w (place 0 (behind a)) (place 0 (behind b)) = (p, joint (behind a) (behind b), refl, refl, has, inl (refl, refl)) in
      let path : Path w 1 (place 0 (behind a)) (place 0 (behind b)) = (place 0 (behind b), inl step, refl) in
      let at_a : contact_at r a ≡ Some (asks q v) = first ∙ asked in
      let at_b : contact_at r b ≡ Some (serves q v) = last ∙ served in
      (join.joints a b).1 (
        q,
        v,
        1,
        at_a,
        at_b,
        subst (λ (x : Place). Path w 1 x (origin w b)) (sym (at_home a (asks q v) at_a))
            (subst (λ (y : Place). Path w 1 (place 0 (behind a)) y) (sym (at_home b (serves q v) at_b)) path),
      )
