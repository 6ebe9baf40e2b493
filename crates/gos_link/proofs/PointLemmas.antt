-- Points tell places: an end of a plan lies at its point alone, and at one point lie one place or two that are linked.
use Rattle.std.specs.Prelude.{◌≡◌, ◌≢◌, ℕ, ◌+◌, ◌<◌, ◌⊎◌, true, List, [], ◌∷◌, length, map, Option, Some, None, slice_get, option_map, nat_eq}
use Rattle.std.proofs.Common.{refl, sym, ◌∙◌, ap, subst, arith, inl, inr, zero-add}
use Rattle.std.proofs.lemmas.Option.{slice_get-map, slice_get_within}
use Rattle.std.proofs.lemmas.Bool.{eq-eqb, ne_eqb}
use Rattle.gos_model.specs.Typing.{Imported}
use Rattle.gos_model.proofs.NumberLemmas.{number_cases}
use Rattle.gos_plan.specs.Kinds.{Part, Contact, contacts_of}
use Rattle.gos_plan.specs.Plans.{End, PartEnd, ImportEnd, ResultEnd, Joint, Plan, contact_at, contacts_of_part, contacts_of_import, turned_if}
use Rattle.gos_plan.specs.Joining.{Place, place, Link, all_parts, all_weight, LeftImport, all_left, part_place, left_place, origin, Linked}
use Rattle.gos_ties.specs.declared.points.Place as spot
use Rattle.gos_ties.specs.declared.points.Place.TheVariants as spots
use Rattle.gos_ties.specs.declared.points.Point.{Point}
use Rattle.gos_ties.specs.Ties.{point, at}
use Rattle.gos_link.specs.declared.services.Service.{Service}
use Rattle.gos_link.specs.Linked.{imports_of, shakes_at, link_at, links_of, outcome_of, wiring_of}
use Rattle.gos_link.specs.inner.Opens.{number_bound, opens_among}
use Rattle.gos_link.specs.inner.Wired.{number_used, rank, stays_before, place_bound, place_used, place_of_result, point_of, AreJoinable}
use Rattle.gos_link.proofs.ServiceLemmas.{In, in_contained, contains_in, link_tells, link_in, bound_tells, used_tells, opens_left}
use Rattle.gos_link.proofs.PlaceLemmas.{part_at, part_stands, open_at, open_stands}

-- the handshake at a place, where there is one
abbrev pub contact_in : Option Plan → End → Option Contact
contact_in None e = None
contact_in (Some p) e = contact_at p e

abbrev pub contact_of : List Plan → Place → Option Contact
contact_of ps x = contact_in (slice_get ps x.plan) x.end

-- there is a handshake at the place
abbrev pub IsThere : List Plan → Place → Type 0
IsThere ps x = (c : Contact) × (contact_of ps x ≡ Some c)

-- the point of a place
abbrev pub spot_of : List Plan → List Service → ℕ → Place → Point
spot_of ps ss root x = point_of ps ss root x.plan x.end

-- the places at a point
abbrev pub of_service : Option Service → ℕ → List Place
of_service None h = []
of_service (Some s) h = place s.user (ImportEnd s.import h) ∷ place s.giver (ResultEnd h) ∷ []

abbrev pub back_at : List Plan → List Service → ℕ → spot.Place → ℕ → List Place
back_at ps ss root (spots.Part g) h = part_place 0 ps g h ∷ []
back_at ps ss root (spots.Import o) h = left_place (slice_get (opens_among ss 0 ps) o) h ∷ []
back_at ps ss root spots.Result h = place root (ResultEnd h) ∷ []
back_at ps ss root (spots.Number k) h = place k (ResultEnd h) ∷ []
back_at ps ss root (spots.Node t) h = of_service (slice_get ss t) h

abbrev pub back : List Plan → List Service → ℕ → Point → List Place
back ps ss root q = back_at ps ss root q.place q.shake

-- what a handshake at an end tells of the end
part_there : (ps : List Plan) (n i h : ℕ) → IsThere ps (place n (PartEnd i h))
    → (p : Plan) × (part : Part) × (slice_get ps n ≡ Some p) × (slice_get p.parts i ≡ Some part)
part_there ps n i h (c, e) = by_plan (slice_get ps n) refl e
  where
    by_part : (p : Plan) (o : Option Part) → slice_get ps n ≡ Some p → slice_get p.parts i ≡ o → slice_get (contacts_of_part o) h ≡ Some c
        → (p : Plan) × (part : Part) × (slice_get ps n ≡ Some p) × (slice_get p.parts i ≡ Some part)
    by_part p None is has e = absurd (cc e)
    by_part p (Some part) is has e = (p, part, is, has)

    by_plan : (o : Option Plan) → slice_get ps n ≡ o → contact_in o (PartEnd i h) ≡ Some c
        → (p : Plan) × (part : Part) × (slice_get ps n ≡ Some p) × (slice_get p.parts i ≡ Some part)
    by_plan None is e = absurd (cc e)
    by_plan (Some p) is e = by_part p (slice_get p.parts i) is refl e

import_there : (ps : List Plan) (n i h : ℕ) → IsThere ps (place n (ImportEnd i h))
    → (p : Plan) × (x : Imported) × (slice_get ps n ≡ Some p) × (slice_get p.imports i ≡ Some x) × (h < length (contacts_of x.ty))
import_there ps n i h (c, e) = by_plan (slice_get ps n) refl e
  where
    by_import : (p : Plan) (o : Option Imported) → slice_get ps n ≡ Some p → slice_get p.imports i ≡ o → slice_get (contacts_of_import o) h ≡ Some c
        → (p : Plan) × (x : Imported) × (slice_get ps n ≡ Some p) × (slice_get p.imports i ≡ Some x) × (h < length (contacts_of x.ty))
    by_import p None is has e = absurd (cc e)
    by_import p (Some x) is has e = (p, x, is, has, slice_get_within (contacts_of x.ty) h c e)

    by_plan : (o : Option Plan) → slice_get ps n ≡ o → contact_in o (ImportEnd i h) ≡ Some c
        → (p : Plan) × (x : Imported) × (slice_get ps n ≡ Some p) × (slice_get p.imports i ≡ Some x) × (h < length (contacts_of x.ty))
    by_plan None is e = absurd (cc e)
    by_plan (Some p) is e = by_import p (slice_get p.imports i) is refl e

module _ (ps : List Plan) (ss : List Service) (root : ℕ) (known : AreJoinable ps ss root) where
  -- a place is one of those at its point
  pub back_tells : (x : Place) → IsThere ps x → In (back ps ss root (spot_of ps ss root x)) x
  back_tells x there = by_end x.end refl
    where
      at : (e : End) → x.end ≡ e → place x.plan e ≡ x
      at e is = λ j. place x.plan (sym is j)

      by_end : (e : End) → x.end ≡ e → In (back ps ss root (point_of ps ss root x.plan e)) x
      by_end (PartEnd i h) is =
          let (p, part, of, has) = part_there ps x.plan i h (subst (λ (y : Place). IsThere ps y) (sym (at (PartEnd i h) is)) there) in
          let stands = (part_stands 0 ps x.plan p i h part of has).1 in
          inl (stands ∙ (ap (λ (n : ℕ). place n (PartEnd i h)) (zero-add x.plan) ∙ at (PartEnd i h) is))
      by_end (ImportEnd i h) is = by (number_bound ss x.plan i) refl
        where
          by : (o : Option ℕ) → number_bound ss x.plan i ≡ o → In (back_at ps ss root (place_bound o (stays_before ss 0 ps x.plan + rank ss x.plan i)) h) x
          by (Some t) e =
              let (s, found, user, import) = bound_tells ss x.plan i t e in
              rw found (inl ((λ j. place (user j) (ImportEnd (import j) h)) ∙ at (ImportEnd i h) is))
          by None e =
              let (p, y, of, has, low) = import_there ps x.plan i h (subst (λ (y : Place). IsThere ps y) (sym (at (ImportEnd i h) is)) there) in
              let plan : 0 + x.plan ≡ x.plan = zero-add x.plan in
              let stands = open_stands ss 0 ps x.plan p i y of has (ap (λ (n : ℕ). number_bound ss n i) plan ∙ e) in
              let found : slice_get (opens_among ss 0 ps) (stays_before ss 0 ps x.plan + rank ss x.plan i) ≡ Some (record { plan = 0 + x.plan; number = i; import = y }) =
              ap (λ (n : ℕ). slice_get (opens_among ss 0 ps) (stays_before ss 0 ps x.plan + rank ss n i)) (sym plan) ∙ stands in
              inl (ap (λ (o : Option LeftImport). left_place o h) found ∙ (ap (λ (n : ℕ). place n (ImportEnd i h)) plan ∙ at (ImportEnd i h) is))
      by_end (ResultEnd h) is = number_cases x.plan root
          (λ e b. rw b (inl (ap (λ (n : ℕ). place n (ResultEnd h)) (sym e) ∙ at (ResultEnd h) is)))
          (λ e b. rw b (by (number_used ss x.plan) refl))
        where
          by : (o : Option ℕ) → number_used ss x.plan ≡ o → In (back_at ps ss root (place_used x.plan o) h) x
          by None e = inl (at (ResultEnd h) is)
          by (Some t) e =
              let (s, found, giver) = used_tells ss x.plan t e in
              rw found (inr (inl ((λ j. place (giver j) (ResultEnd h)) ∙ at (ResultEnd h) is)))

  -- the two places of a service are linked
  pub linked_at : (t : ℕ) (s : Service) (h : ℕ) → slice_get ss t ≡ Some s → h < shakes_at ps s
      → Linked (wiring_of ps ss root) (place s.user (ImportEnd s.import h)) (place s.giver (ResultEnd h))
  linked_at t s h found low = (link_at s h, contains_in (links_of ps ss) (link_at s h) (link_in ps ss t s h found low), inl (refl, refl))

  -- of two places at one point both are one, or they are linked
  pub one_point : (x y : Place) → IsThere ps x → IsThere ps y → spot_of ps ss root x ≡ spot_of ps ss root y
      → (x ≡ y) ⊎ Linked (wiring_of ps ss root) x y
  one_point x y there_x there_y e =
      by (spot_of ps ss root x) (back_tells x there_x) (subst (λ (q : Point). In (back ps ss root q) y) (sym e) (back_tells y there_y))
    where
      single : (z : Place) → In (z ∷ []) x → In (z ∷ []) y → (x ≡ y) ⊎ Linked (wiring_of ps ss root) x y
      single z (inl a) (inl b) = inl (sym a ∙ b)
      single z (inl a) (inr none) = absurd none
      single z (inr none) b = absurd none

      low_import : (s : Service) (h : ℕ) (z : Place) → IsThere ps z → place s.user (ImportEnd s.import h) ≡ z → h < shakes_at ps s
      low_import s h z there is =
          let (p, i, of, has, low) = import_there ps s.user s.import h (subst (λ (y : Place). IsThere ps y) (sym is) there) in
          let shakes : shakes_at ps s ≡ length (contacts_of i.ty) =
          (λ j. length (contacts_of_import (slice_get (imports_of (of j)) s.import))) ∙ (λ j. length (contacts_of_import (has j)))
          in
          omega (arith, shakes, low)

      pair : (t h : ℕ) (s : Service) → slice_get ss t ≡ Some s → In (of_service (Some s) h) x → In (of_service (Some s) h) y
          → (x ≡ y) ⊎ Linked (wiring_of ps ss root) x y
      pair t h s found (inl a) (inl b) = inl (sym a ∙ b)
      pair t h s found (inl a) (inr (inl b)) =
          let (l, has, ways) = linked_at t s h found (low_import s h x there_x a) in (
          inr (
            l,
            has,
            subst (λ (z : Place). ((z ≡ l.one) × (y ≡ l.other)) ⊎ ((z ≡ l.other) × (y ≡ l.one))) a
                (subst (λ (z : Place). ((place s.user (ImportEnd s.import h) ≡ l.one) × (z ≡ l.other)) ⊎ ((place s.user (ImportEnd s.import h) ≡ l.other) × (z ≡ l.one))) b ways),
          )
          )
      pair t h s found (inr (inl a)) (inl b) =
          let low = low_import s h y there_y b in
          inr (link_at s h, contains_in (links_of ps ss) (link_at s h) (link_in ps ss t s h found low), inr (sym a, sym b))
      pair t h s found (inr (inl a)) (inr (inl b)) = inl (sym a ∙ b)
      pair t h s found (inl a) (inr (inr none)) = absurd none
      pair t h s found (inr (inl a)) (inr (inr none)) = absurd none
      pair t h s found (inr (inr none)) b = absurd none

      by_service : (t h : ℕ) (o : Option Service) → slice_get ss t ≡ o → In (of_service o h) x → In (of_service o h) y
          → (x ≡ y) ⊎ Linked (wiring_of ps ss root) x y
      by_service t h None found a b = absurd a
      by_service t h (Some s) found a b = pair t h s found a b

      by_place : (p : spot.Place) (h : ℕ) → In (back_at ps ss root p h) x → In (back_at ps ss root p h) y → (x ≡ y) ⊎ Linked (wiring_of ps ss root) x y
      by_place (spots.Part g) h a b = single (part_place 0 ps g h) a b
      by_place (spots.Import o) h a b = single (left_place (slice_get (opens_among ss 0 ps) o) h) a b
      by_place spots.Result h a b = single (place root (ResultEnd h)) a b
      by_place (spots.Number k) h a b = single (place k (ResultEnd h)) a b
      by_place (spots.Node t) h a b = by_service t h (slice_get ss t) refl a b

      by : (q : Point) → In (back ps ss root q) x → In (back ps ss root q) y → (x ≡ y) ⊎ Linked (wiring_of ps ss root) x y
      by q a b = by_place q.place q.shake a b

  -- linked places lie at one point
  pub linked_point : (x y : Place) → Linked (wiring_of ps ss root) x y → spot_of ps ss root x ≡ spot_of ps ss root y
  linked_point x y (l, has, ways) =
      let (t, s, h, found, low, is) = link_tells ps ss l (in_contained (links_of ps ss) l has) in
      let one : spot_of ps ss root l.one ≡ point (spots.Node t) h =
      ap (λ (m : Link). spot_of ps ss root m.one) is ∙ ap (λ (o : Option ℕ). point (place_bound o (stays_before ss 0 ps s.user + rank ss s.user s.import)) h) (known.bound t s found)
      in
      let apart : s.giver ≢ root = (λ e. let wrong : Some t ≡ None = sym (known.used t s found) ∙ (ap (number_used ss) e ∙ known.unused) in absurd (cc wrong)) in
      let result : place_of_result ss root s.giver ≡ spots.Node t = rw (ne_eqb s.giver root apart) (ap (place_used s.giver) (known.used t s found)) in
      let other : spot_of ps ss root l.other ≡ point (spots.Node t) h =
      ap (λ (m : Link). spot_of ps ss root m.other) is ∙ ap (λ (p : spot.Place). point p h) result
      in
      elim ways [
        | inl (a, b) ↦ ap (spot_of ps ss root) a ∙ (one ∙ (sym other ∙ ap (spot_of ps ss root) (sym b)))
        | inr (a, b) ↦ ap (spot_of ps ss root) a ∙ (other ∙ (sym one ∙ ap (spot_of ps ss root) (sym b)))
      ]

  -- the joining, with these joints
  abbrev pub joined : List Joint → Plan
  joined js =
      record {
        weight = all_weight ps;
        imports = map (λ l. l.import) (all_left (wiring_of ps ss root));
        outcome = outcome_of (slice_get ps root);
        parts = all_parts ps;
        joints = js;
      }

  -- where an end of the joining stands: it lies at its own point, has its handshake there, and is in no link
  pub record Stands (e : End) (c : Contact) : Type 0 where
    pub spot : spot_of ps ss root (origin (wiring_of ps ss root) e) ≡ at e
    pub contact : contact_of ps (origin (wiring_of ps ss root) e) ≡ Some c
    pub apart : (y : Place) → Linked (wiring_of ps ss root) (origin (wiring_of ps ss root) e) y → ⊥

  -- an end that is no served import and no result of a giver is in no link
  unlinked : (x y : Place) → Linked (wiring_of ps ss root) x y
      → ((t : ℕ) (s : Service) (h : ℕ) → slice_get ss t ≡ Some s → (x ≡ place s.user (ImportEnd s.import h)) ⊎ (x ≡ place s.giver (ResultEnd h)) → ⊥) → ⊥
  unlinked x y (l, has, ways) never =
      let (t, s, h, found, low, is) = link_tells ps ss l (in_contained (links_of ps ss) l has) in
      elim ways [
        | inl (a, b) ↦ never t s h found (inl (a ∙ ap (λ (m : Link). m.one) is))
        | inr (a, b) ↦ never t s h found (inr (a ∙ ap (λ (m : Link). m.other) is))
      ]

  part_sort : (n i h m j g : ℕ) → place n (PartEnd i h) ≡ place m (ImportEnd j g) → ⊥
  part_sort n i h m j g e = let f : PartEnd i h ≡ ImportEnd j g = ap (λ (x : Place). x.end) e in absurd (cc f)

  part_sort' : (n i h m g : ℕ) → place n (PartEnd i h) ≡ place m (ResultEnd g) → ⊥
  part_sort' n i h m g e = let f : PartEnd i h ≡ ResultEnd g = ap (λ (x : Place). x.end) e in absurd (cc f)

  import_sort : (n i h m g : ℕ) → place n (ImportEnd i h) ≡ place m (ResultEnd g) → ⊥
  import_sort n i h m g e = let f : ImportEnd i h ≡ ResultEnd g = ap (λ (x : Place). x.end) e in absurd (cc f)

  pub stands : (js : List Joint) (e : End) (c : Contact) → contact_at (joined js) e ≡ Some c → Stands e c
  stands js (PartEnd g h) c e = by (slice_get (all_parts ps) g) refl e
    where
      by : (o : Option Part) → slice_get (all_parts ps) g ≡ o → slice_get (contacts_of_part o) h ≡ Some c → Stands (PartEnd g h) c
      by None found e = absurd (cc e)
      by (Some part) found e =
          let r = part_at 0 ps g part found in
          let placed = (part_stands 0 ps r.plan r.of r.number h part r.is r.has).1 in
          let is : part_place 0 ps g h ≡ place r.plan (PartEnd r.number h) =
          ap (λ (m : ℕ). part_place 0 ps m h) r.sum ∙ (placed ∙ ap (λ (n : ℕ). place n (PartEnd r.number h)) (zero-add r.plan))
          in
          record {
            spot = ap (spot_of ps ss root) is ∙ ap (λ (m : ℕ). point (spots.Part m) h) (sym r.sum);
            contact =
                ap (contact_of ps) is
                ∙ (ap (λ (o : Option Plan). contact_in o (PartEnd r.number h)) r.is ∙ (ap (λ (o : Option Part). slice_get (contacts_of_part o) h) r.has ∙ e));
            apart =
                λ y linked. unlinked (part_place 0 ps g h) y linked
                (λ t s k found ways. elim ways [
                  | inl a ↦ part_sort r.plan r.number h s.user s.import k (sym is ∙ a)
                  | inr a ↦ part_sort' r.plan r.number h s.giver k (sym is ∙ a)
                ]);
          }
  stands js (ImportEnd o h) c e = by (slice_get (all_left (wiring_of ps ss root)) o) refl e
    where
      by : (left : Option LeftImport) → slice_get (all_left (wiring_of ps ss root)) o ≡ left
          → slice_get (contacts_of_import (slice_get (map (λ l. l.import) (all_left (wiring_of ps ss root))) o)) h ≡ Some c → Stands (ImportEnd o h) c
      by None found e =
          let none : slice_get (map (λ l. l.import) (all_left (wiring_of ps ss root))) o ≡ None =
          slice_get-map (λ (l : LeftImport). l.import) (all_left (wiring_of ps ss root)) o ∙ ap (option_map (λ (l : LeftImport). l.import)) found in
          let wrong : None ≡ Some c = sym (ap (λ (i : Option Imported). slice_get (contacts_of_import i) h) none) ∙ e in absurd (cc wrong)
      by (Some l) found e =
          let some : slice_get (map (λ l. l.import) (all_left (wiring_of ps ss root))) o ≡ Some l.import =
          slice_get-map (λ (l : LeftImport). l.import) (all_left (wiring_of ps ss root)) o ∙ ap (option_map (λ (l : LeftImport). l.import)) found in
          let here : slice_get (contacts_of l.import.ty) h ≡ Some c = sym (ap (λ (i : Option Imported). slice_get (contacts_of_import i) h) some) ∙ e in
          let r = open_at ss 0 ps o l (ap (λ (ls : List LeftImport). slice_get ls o) (sym (opens_left ps ss root known)) ∙ found) in
          let plan : l.plan ≡ r.plan = r.plan_is ∙ zero-add r.plan in
          let is : origin (wiring_of ps ss root) (ImportEnd o h) ≡ place r.plan (ImportEnd l.number h) =
          ap (λ (i : Option LeftImport). left_place i h) found ∙ ap (λ (n : ℕ). place n (ImportEnd l.number h)) plan
          in
          let unbound : number_bound ss r.plan l.number ≡ None = ap (λ (n : ℕ). number_bound ss n l.number) (sym (zero-add r.plan)) ∙ r.unbound in
          let sum : stays_before ss 0 ps r.plan + rank ss r.plan l.number ≡ o =
          sym (r.sum ∙ ap (λ (n : ℕ). stays_before ss 0 ps r.plan + rank ss n l.number) (zero-add r.plan))
          in
          record {
            spot =
                ap (spot_of ps ss root) is
                ∙ (ap (λ (i : Option ℕ). point (place_bound i (stays_before ss 0 ps r.plan + rank ss r.plan l.number)) h) unbound
                ∙ ap (λ (m : ℕ). point (spots.Import m) h) sum);
            contact =
                ap (contact_of ps) is
                ∙ (ap (λ (i : Option Plan). contact_in i (ImportEnd l.number h)) r.is
                ∙ (ap (λ (i : Option Imported). slice_get (contacts_of_import i) h) r.has ∙ here));
            apart =
                λ y linked. unlinked (origin (wiring_of ps ss root) (ImportEnd o h)) y linked
                (λ t s k at_t ways. elim ways [
                  | inl a ↦
                      (let same : place r.plan (ImportEnd l.number h) ≡ place s.user (ImportEnd s.import k) = sym is ∙ a in
                      let users : r.plan ≡ s.user = ap (λ (x : Place). x.plan) same in
                      let ends : ImportEnd l.number h ≡ ImportEnd s.import k = ap (λ (x : Place). x.end) same in
                      let numbers : l.number ≡ s.import = cc ends in
                      let wrong : Some t ≡ None = sym (known.bound t s at_t) ∙ ((λ j. number_bound ss (sym users j) (sym numbers j)) ∙ unbound) in
                      absurd (cc wrong))
                  | inr a ↦ import_sort r.plan l.number h s.giver k (sym is ∙ a)
                ]);
          }
  stands js (ResultEnd h) c e =
      let is : place root (ResultEnd (0 + h)) ≡ place root (ResultEnd h) = ap (λ (n : ℕ). place root (ResultEnd n)) (zero-add h) in
      let (p, found) = known.some_root in
      let root_is : nat_eq root root ≡ true = eq-eqb root root refl in
      record {
        spot = ap (spot_of ps ss root) is ∙ rw root_is refl;
        contact =
            ap (contact_of ps) is
            ∙ (ap (λ (o : Option Plan). contact_in o (ResultEnd h)) found
            ∙ (ap (λ (o : Option Plan). turned_if (slice_get (contacts_of (outcome_of o)) h)) (sym found) ∙ e));
        apart =
            λ y linked. unlinked (place root (ResultEnd (0 + h))) y linked
            (λ t s k at_t ways. elim ways [
              | inl a ↦ import_sort s.user s.import k root (0 + h) (sym a)
              | inr a ↦
                  (let givers : root ≡ s.giver = ap (λ (x : Place). x.plan) a in
                  let wrong : Some t ≡ None = sym (known.used t s at_t) ∙ (ap (number_used ss) (sym givers) ∙ known.unused) in
                  absurd (cc wrong))
            ]);
      }
