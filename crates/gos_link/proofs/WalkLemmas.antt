-- Two ends of linked plans that a path connects see each other from the two sides.
--
-- From an end that is in no link joints and links lead on in turn, and each turns the handshake.
use Rattle.std.specs.Prelude.{◌≡◌, ◌≢◌, ℕ, zero, suc, ◌||◌, ◌⊎◌, Bool, true, false, List, [], Option, Some, None, Contains, slice_get}
use Rattle.std.proofs.Common.{refl, sym, ◌∙◌, ap, subst, inl, inr}
use Rattle.gos_types.proofs.BoolLemmas.{or_true}
use Rattle.gos_model.specs.Typing.{Imported}
use Rattle.gos_plan.specs.Kinds.{Contact, asks, serves, contacts_of, turned_contact}
use Rattle.gos_plan.specs.Plans.{End, ImportEnd, ResultEnd, Joint, Plan, contact_at, contacts_of_import, turned_if, same_end, stands_in, Fits, IsRight}
use Rattle.gos_plan.specs.Joining.{Place, place, Link, Wiring, JoinedWithin, Linked, Path}
use Rattle.gos_plan.proofs.JointLemmas.{same_itself, one_joint, contained, ends_are_apart}
use Rattle.gos_plan.proofs.JointLemmas as joints
use Rattle.gos_plan.proofs.ContactLemmas.{turned_contact_twice}
use Rattle.gos_plan.proofs.WiringLemmas.{linked_back, joined_back, place_is}
use Rattle.gos_link.specs.declared.services.Service.{Service}
use Rattle.gos_link.specs.Linked.{links_of, wiring_of}
use Rattle.gos_link.specs.inner.Opens.{number_bound}
use Rattle.gos_link.specs.inner.Wired.{number_used, AllRight, AreJoinable}
use Rattle.gos_link.proofs.ServiceLemmas.{in_contained, link_tells}
use Rattle.gos_link.proofs.PointLemmas.{contact_in, contact_of}

-- the ends of a joint
abbrev Ends : Joint → End → End → Type 0
Ends j a b = ((a ≡ j.asking) × (b ≡ j.serving)) ⊎ ((a ≡ j.serving) × (b ≡ j.asking))

other_end : (p : Plan) (j : Joint) → Fits p j → (e b c : End) → Ends j e b → Ends j e c → b ≡ c
other_end p j fit e b c (inl (at, is)) (inl (at_too, is_too)) = is ∙ sym is_too
other_end p j fit e b c (inl (at, is)) (inr (at_too, is_too)) = absurd (ends_are_apart p j fit (sym at ∙ at_too))
other_end p j fit e b c (inr (at, is)) (inl (at_too, is_too)) = absurd (ends_are_apart p j fit (sym at_too ∙ at))
other_end p j fit e b c (inr (at, is)) (inr (at_too, is_too)) = is ∙ sym is_too

stands : (j : Joint) (e b : End) → Ends j e b → stands_in e j ≡ true
stands j e b (inl (at, is)) =
    subst (λ (x : End). stands_in x j ≡ true) (sym at) (ap (λ (t : Bool). t || same_end j.asking j.serving) (same_itself j.asking))
stands j e b (inr (at, is)) =
    subst (λ (x : End). stands_in x j ≡ true) (sym at)
    (ap (λ (t : Bool). same_end j.serving j.asking || t) (same_itself j.serving) ∙ or_true (same_end j.serving j.asking))

-- what a place leads to: by a joint at last, or by a link or not at all
pub data Walk (w : Wiring) (a : Place) : Bool → Place → Type 0 where
  begins : Walk w a false a
  joins : (y z : Place) → Walk w a false y → JoinedWithin w y z → Walk w a true z
  links : (y z : Place) → Walk w a true y → Linked w y z → Walk w a false z

abbrev turned_by : Bool → Contact → Contact
turned_by true c = turned_contact c
turned_by false c = c

module _ (ps : List Plan) (ss : List Service) (root : ℕ) (known : AreJoinable ps ss root) (right : AllRight ps) where
  joined_one : (a b c : Place) → JoinedWithin (wiring_of ps ss root) a b → JoinedWithin (wiring_of ps ss root) a c → b ≡ c
  joined_one a b c (p, j, same, is, has, ways) (q, k, same_too, is_too, has_too, ways_too) =
      let one : IsRight p = right a.plan p is in
      let plans : q ≡ p = cc (is, is_too) in
      let in_p : Contains p.joints k = subst (λ (x : Plan). Contains x.joints k) plans has_too in
      let j_is : j ≡ k =
      one_joint p [] p.joints j k a.end one (contained p.joints j has) (contained p.joints k in_p) (stands j a.end b.end ways) (stands k a.end c.end ways_too)
      in
      place_is b c (sym same ∙ same_too)
      (other_end p j (joints.fits p [] p.joints j one (contained p.joints j has)) a.end b.end c.end ways (subst (λ (x : Joint). Ends x a.end c.end) (sym j_is) ways_too))

  -- a service has one link for each handshake, and no place is in the links of two
  abbrev Meant : Place → Place → Type 0
  Meant a b =
      (t : ℕ) × (s : Service) × (h : ℕ) × (slice_get ss t ≡ Some s)
      × (((a ≡ place s.user (ImportEnd s.import h)) × (b ≡ place s.giver (ResultEnd h)))
      ⊎ ((a ≡ place s.giver (ResultEnd h)) × (b ≡ place s.user (ImportEnd s.import h))))

  meant : (a b : Place) → Linked (wiring_of ps ss root) a b → Meant a b
  meant a b (l, has, ways) =
      let (t, s, h, found, low, is) = link_tells ps ss l (in_contained (links_of ps ss) l has) in
      let one : l.one ≡ place s.user (ImportEnd s.import h) = ap (λ (m : Link). m.one) is in
      let other : l.other ≡ place s.giver (ResultEnd h) = ap (λ (m : Link). m.other) is in
      (t, s, h, found, elim ways [ inl (e, f) ↦ inl (e ∙ one, f ∙ other) | inr (e, f) ↦ inr (e ∙ other, f ∙ one) ])

  import_or_result : (n i h m g : ℕ) → place n (ImportEnd i h) ≡ place m (ResultEnd g) → ⊥
  import_or_result n i h m g e = let f : ImportEnd i h ≡ ResultEnd g = ap (λ (x : Place). x.end) e in absurd (cc f)

  some_same : (t u : ℕ) → Some t ≡ Some u → t ≡ u
  some_same t u e = cc e

  one_service : (t u : ℕ) (s r : Service) → slice_get ss t ≡ Some s → slice_get ss u ≡ Some r → t ≡ u → s ≡ r
  one_service t u s r e f same = let g : Some s ≡ Some r = sym e ∙ (ap (slice_get ss) same ∙ f) in cc g

  linked_one : (a b c : Place) → Linked (wiring_of ps ss root) a b → Linked (wiring_of ps ss root) a c → b ≡ c
  linked_one a b c l m = by (meant a b l) (meant a c m)
    where
      by : Meant a b → Meant a c → b ≡ c
      by (t, s, h, at, inl (e, f)) (u, r, g, at_too, inl (e', f')) =
          let same : place s.user (ImportEnd s.import h) ≡ place r.user (ImportEnd r.import g) = sym e ∙ e' in
          let users : s.user ≡ r.user = ap (λ (x : Place). x.plan) same in
          let ends : ImportEnd s.import h ≡ ImportEnd r.import g = ap (λ (x : Place). x.end) same in
          let imports : s.import ≡ r.import = cc ends in
          let shakes : h ≡ g = cc ends in
          let numbers : t ≡ u = some_same t u (sym (known.bound t s at) ∙ ((λ j. number_bound ss (users j) (imports j)) ∙ known.bound u r at_too)) in
          let services : s ≡ r = one_service t u s r at at_too numbers in
          f ∙ ((λ j. place (services j).giver (ResultEnd (shakes j))) ∙ sym f')
      by (t, s, h, at, inl (e, f)) (u, r, g, at_too, inr (e', f')) = absurd (import_or_result s.user s.import h r.giver g (sym e ∙ e'))
      by (t, s, h, at, inr (e, f)) (u, r, g, at_too, inl (e', f')) = absurd (import_or_result r.user r.import g s.giver h (sym e' ∙ e))
      by (t, s, h, at, inr (e, f)) (u, r, g, at_too, inr (e', f')) =
          let same : place s.giver (ResultEnd h) ≡ place r.giver (ResultEnd g) = sym e ∙ e' in
          let givers : s.giver ≡ r.giver = ap (λ (x : Place). x.plan) same in
          let ends : ResultEnd h ≡ ResultEnd g = ap (λ (x : Place). x.end) same in
          let shakes : h ≡ g = cc ends in
          let numbers : t ≡ u = some_same t u (sym (known.used t s at) ∙ (ap (number_used ss) givers ∙ known.used u r at_too)) in
          let services : s ≡ r = one_service t u s r at at_too numbers in
          f ∙ ((λ j. place (services j).user (ImportEnd (services j).import (shakes j))) ∙ sym f')

  -- the handshake is turned by each step
  joined_turns : (y z : Place) (c : Contact) → JoinedWithin (wiring_of ps ss root) y z → contact_of ps y ≡ Some c → contact_of ps z ≡ Some (turned_contact c)
  joined_turns y z c (p, j, same, is, has, ways) at_y = by (joints.fits p [] p.joints j (right y.plan p is) (contained p.joints j has)) ways
    where
      here : contact_at p y.end ≡ Some c
      here = ap (λ (o : Option Plan). contact_in o y.end) (sym is) ∙ at_y

      there : contact_of ps z ≡ contact_at p z.end
      there = ap (λ (k : ℕ). contact_in (slice_get ps k) z.end) (sym same) ∙ ap (λ (o : Option Plan). contact_in o z.end) is

      some_contact : (d e : Contact) → Some d ≡ Some e → d ≡ e
      some_contact d e f = cc f

      by : Fits p j → Ends j y.end z.end → contact_of ps z ≡ Some (turned_contact c)
      by (q, v, asked, served) (inl (e, f)) =
          let is_c : c ≡ asks q v = some_contact c (asks q v) (sym here ∙ (ap (contact_at p) e ∙ asked)) in
          there ∙ (ap (contact_at p) f ∙ (served ∙ ap (λ (d : Contact). Some (turned_contact d)) (sym is_c)))
      by (q, v, asked, served) (inr (e, f)) =
          let is_c : c ≡ serves q v = some_contact c (serves q v) (sym here ∙ (ap (contact_at p) e ∙ served)) in
          there ∙ (ap (contact_at p) f ∙ (asked ∙ ap (λ (d : Contact). Some (turned_contact d)) (sym is_c)))

  linked_turns : (y z : Place) (c : Contact) → Linked (wiring_of ps ss root) y z → contact_of ps y ≡ Some c → contact_of ps z ≡ Some (turned_contact c)
  linked_turns y z c l at_y = by (meant y z l)
    where
      of_import : (t : ℕ) (s : Service) (h : ℕ) → slice_get ss t ≡ Some s → (x : Imported) × (q : Plan) × (x.ty ≡ q.outcome)
          × (contact_of ps (place s.user (ImportEnd s.import h)) ≡ slice_get (contacts_of x.ty) h)
          × (contact_of ps (place s.giver (ResultEnd h)) ≡ turned_if (slice_get (contacts_of q.outcome) h))
      of_import t s h at =
          let (p, q, x, of_user, of_giver, import, type) = known.fits t s at in (
            x,
            q,
            type,
            ap (λ (o : Option Plan). contact_in o (ImportEnd s.import h)) of_user ∙ ap (λ (o : Option Imported). slice_get (contacts_of_import o) h) import,
            ap (λ (o : Option Plan). contact_in o (ResultEnd h)) of_giver,
          )

      turned_back : (o : Option Contact) → turned_if o ≡ Some c → o ≡ Some (turned_contact c)
      turned_back None e = absurd (cc e)
      turned_back (Some d) e =
          let same : turned_contact d ≡ c = cc e in ap Some (sym (turned_contact_twice d) ∙ ap turned_contact same)

      by : Meant y z → contact_of ps z ≡ Some (turned_contact c)
      by (t, s, h, at, inl (e, f)) =
          let (x, q, type, import, result) = of_import t s h at in
          let here : slice_get (contacts_of x.ty) h ≡ Some c = sym import ∙ (ap (contact_of ps) (sym e) ∙ at_y) in
          ap (contact_of ps) f ∙ (result ∙ (λ j. turned_if (slice_get (contacts_of (sym type j)) h)) ∙ ap turned_if here)
      by (t, s, h, at, inr (e, f)) =
          let (x, q, type, import, result) = of_import t s h at in
          let here : turned_if (slice_get (contacts_of q.outcome) h) ≡ Some c = sym result ∙ (ap (contact_of ps) (sym e) ∙ at_y) in
          ap (contact_of ps) f ∙ (import ∙ ((λ j. slice_get (contacts_of (type j)) h) ∙ turned_back (slice_get (contacts_of q.outcome) h) here))

  walk_turns : (a : Place) (c : Contact) → contact_of ps a ≡ Some c → (u : Bool) (z : Place) → Walk (wiring_of ps ss root) a u z → contact_of ps z ≡ Some (turned_by u c)
  walk_turns a c at_a _ _ begins = at_a
  walk_turns a c at_a _ z (joins y _ walk j) = joined_turns y z c j (walk_turns a c at_a false y walk)
  walk_turns a c at_a _ z (links y _ walk l) =
      linked_turns y z (turned_contact c) l (walk_turns a c at_a true y walk) ∙ ap Some (turned_contact_twice c)

  -- one step more
  abbrev IsWalked : Place → Place → Type 0
  IsWalked a z = (u : Bool) × Walk (wiring_of ps ss root) a u z

  walk_on : (a : Place) → ((y : Place) → Linked (wiring_of ps ss root) a y → ⊥) → (u : Bool) (y z : Place) → Walk (wiring_of ps ss root) a u y
      → JoinedWithin (wiring_of ps ss root) y z ⊎ Linked (wiring_of ps ss root) y z → IsWalked a z
  walk_on a free _ y z begins (inl j) = (true, joins a z begins j)
  walk_on a free _ y z begins (inr l) = absurd (free z l)
  walk_on a free _ y z (joins x _ walk i) (inl j) =
      let same : x ≡ z = joined_one y x z (joined_back (wiring_of ps ss root) x y i) j in
      (false, subst (λ (p : Place). Walk (wiring_of ps ss root) a false p) same walk)
  walk_on a free _ y z (joins x _ walk i) (inr l) = (false, links y z (joins x y walk i) l)
  walk_on a free _ y z (links x _ walk k) (inl j) = (true, joins y z (links x y walk k) j)
  walk_on a free _ y z (links x _ walk k) (inr l) =
      let same : x ≡ z = linked_one y x z (linked_back (wiring_of ps ss root) x y k) l in
      (true, subst (λ (p : Place). Walk (wiring_of ps ss root) a true p) same walk)

  walk_path : (a : Place) → ((y : Place) → Linked (wiring_of ps ss root) a y → ⊥) → (n : ℕ) (y z : Place) → IsWalked a y → Path (wiring_of ps ss root) n y z → IsWalked a z
  walk_path a free zero y z (u, walk) e = (u, subst (λ (p : Place). Walk (wiring_of ps ss root) a u p) e walk)
  walk_path a free (suc n) y z (u, walk) (x, s, p) = walk_path a free n x z (walk_on a free u y x walk s) p

  last_link : (a : Place) (u : Bool) (z : Place) → u ≡ false → Walk (wiring_of ps ss root) a u z → (a ≡ z) ⊎ ((y : Place) × Linked (wiring_of ps ss root) y z)
  last_link a _ _ e begins = inl refl
  last_link a _ z e (joins y _ walk j) = absurd (cc e)
  last_link a _ z e (links y _ walk l) = inr (y, l)

  pub ends_turn : (a b : Place) (c d : Contact) (n : ℕ) → contact_of ps a ≡ Some c → contact_of ps b ≡ Some d
      → ((y : Place) → Linked (wiring_of ps ss root) a y → ⊥) → ((y : Place) → Linked (wiring_of ps ss root) b y → ⊥) → a ≢ b
      → Path (wiring_of ps ss root) n a b → d ≡ turned_contact c
  ends_turn a b c d n at_a at_b free_a free_b apart path = by (walk_path a free_a n a b (false, begins) path)
    where
      by : IsWalked a b → d ≡ turned_contact c
      by (true, walk) = let e : Some d ≡ Some (turned_contact c) = sym at_b ∙ walk_turns a c at_a true b walk in cc e
      by (false, walk) =
          elim (last_link a false b refl walk) [
            | inl e ↦ absurd (apart e)
            | inr (y, l) ↦ absurd (free_b y (linked_back (wiring_of ps ss root) y b l))
          ]
