-- The table of joints tells the directions at each end, and the edges through parts are those of the graph of directions.
--
-- Read first: Choosing, Directions; SeatLemmas.
use Rattle.std.proofs.Common.{◌≡◌, ◌+◌, ◌<◌, ◌↔◌, ℕ, suc, Bool, true, false, if◌then◌else◌, List, [], ◌∷◌, length, slice_get, Option, Some, inl, inr, refl, sym, ap, ap₂, subst, ◌∙◌, zero-add, arith}
use Rattle.std.specs.Prelude.{None}
use Rattle.std.proofs.lemmas.Option.{none-some, same_Some, slice_get_within}
use Rattle.gos_order.specs.Rings.{Graph, Edge, HasEdge}
use Rattle.gos_types.specs.declared.shakes.Role.{Role}
use Rattle.gos_types.specs.declared.shakes.Role.TheVariants.{Serve, Ask}
use Rattle.gos_types.specs.Events.{Direction, Request, Answer}
use Rattle.gos_plan.specs.Kinds.{Contact, asks, serves}
use Rattle.gos_plan.specs.Contacts.{held_contact}
use Rattle.gos_plan.specs.Plans.{End, PartEnd, Joint, Plan, IsRight, contact_at, same_end}
use Rattle.gos_expand.specs.declared.arrivals.Origin.{Origin}
use Rattle.gos_expand.specs.declared.arrivals.Origin.TheVariants.{Cells}
use Rattle.gos_expand.specs.declared.arrivals.Arrival.{Arrival}
use Rattle.gos_expand.specs.declared.arrivals.Arrivals.{Arrivals}
use Rattle.gos_expand.specs.Gates.{Making}
use Rattle.gos_expand.specs.Starts.{chosen, place_of}
use Rattle.gos_expand.specs.Laid.{Seat, seat_among, seat_of}
use Rattle.gos_expand.specs.Facts.{source, target}
use Rattle.gos_expand.specs.inner.Arrivals.{or_else, some_if, arrival_if, AreAt}
use Rattle.gos_expand.specs.inner.Directions.{directions, ArrivesAt, LeavesAt, IsInner, AreEdges, IsGraphOf}
use Rattle.gos_expand.specs.inner.Numbering.{laying}
use Rattle.gos_expand.specs.inner.Choosing.{joint_among, joint_at, Ways, ways_by, ways_in, ways_of, ways_at, number_in, HasSmallJoints, AreWithin, Adds, PassesAt, linked, AreFew, KeepsFewRings}
use Rattle.gos_expand.proofs.SeatLemmas.{joint_fits, Seated, IsSide, seat_found}
use Rattle.gos_expand.proofs.RegisterLemmas.{seat_there}
use Rattle.gos_expand.proofs.DirectionLemmas.{direction_low}
use Rattle.gos_expand.proofs.ChoiceLemmas.{few_rings, graph_of_all}

-- the joint at an end is that of its seat
abbrev seat_origin : Option Seat → Option Origin
seat_origin None = None
seat_origin (Some s) = Some (Cells s.joint)

joint_seat : (n : ℕ) (js : List Joint) (e : End) → joint_among n js e ≡ seat_origin (seat_among n js e)
joint_seat n [] e = refl
joint_seat n (j ∷ js) e = by_tests (same_end e j.asking) (same_end e j.serving) (joint_seat (suc n) js e)
  where
    by_tests : (a b : Bool) → joint_among (suc n) js e ≡ seat_origin (seat_among (suc n) js e)
        → or_else (or_else (some_if a (Cells n)) (some_if b (Cells n))) (joint_among (suc n) js e)
        ≡ seat_origin
        (if a then Some (record { joint = n; way = Answer; other = j.serving })
        else (if b then Some (record { joint = n; way = Request; other = j.asking }) else seat_among (suc n) js e))
    by_tests true b rest = refl
    by_tests false true rest = refl
    by_tests false false rest = rest

-- the directions at an end that has a handshake and a seat
pub ways_seated : (p : Plan) (table : Arrivals) (e : End) (c : Contact) (s : Seat) → AreAt p (joint_at p) table → contact_at p e ≡ Some c → seat_of p e ≡ Some s
    → ways_at table e ≡ Some (ways_by c.role s.joint)
ways_seated p table e c s are there seat =
    ap ways_of (are e)
    ∙ (ap (λ (o : Option Contact). ways_of (arrival_if (joint_at p e) o)) there
    ∙ ap (λ (o : Option Origin). ways_in c.role (number_in o)) (joint_seat 0 p.joints e ∙ ap seat_origin seat))

-- an end with directions has both
pub record Told (p : Plan) (e : End) (w : Ways) : Type 0 where
  pub contact : Contact
  pub there : contact_at p e ≡ Some contact
  pub seat : Seat
  pub seated : seat_of p e ≡ Some seat
  pub is : w ≡ ways_by contact.role seat.joint

pub told : (p : Plan) (table : Arrivals) (e : End) (w : Ways) → AreAt p (joint_at p) table → ways_at table e ≡ Some w → Told p e w
told p table e w are is = by_contact (contact_at p e) refl (sym (ap ways_of (are e)) ∙ is)
  where
    by_contact : (o : Option Contact) → contact_at p e ≡ o → ways_of (arrival_if (joint_at p e) (contact_at p e)) ≡ Some w → Told p e w
    by_contact None none found =
        absurd (none-some w (sym (ap (λ (o : Option Contact). ways_of (arrival_if (joint_at p e) o)) none) ∙ found))
    by_contact (Some c) there found =
        by_seat (seat_of p e) refl
        (sym (ap (λ (o : Option Contact). ways_of (arrival_if (joint_at p e) o)) there ∙ ap (λ (o : Option Origin). ways_in c.role (number_in o)) (joint_seat 0 p.joints e))
        ∙ found)
      where
        by_seat : (o : Option Seat) → seat_of p e ≡ o → ways_in c.role (number_in (seat_origin (seat_of p e))) ≡ Some w → Told p e w
        by_seat None none got =
            absurd (none-some w (sym (ap (λ (x : Option Seat). ways_in c.role (number_in (seat_origin x))) none) ∙ got))
        by_seat (Some s) seated got =
            record {
              contact = c;
              there = there;
              seat = s;
              seated = seated;
              is = sym (same_Some (ways_by c.role s.joint) w (sym (ap (λ (x : Option Seat). ways_in c.role (number_in (seat_origin x))) seated) ∙ got));
            }

-- so these directions arrive there and leave there
pub told_ways : (p : Plan) (e : End) (w : Ways) → IsRight p → Told p e w → ArrivesAt p w.arriving e × LeavesAt p w.leaving e
told_ways p e w right t = by_side (seat_found 0 p.joints e t.seat t.seated)
  where
    by_role : (j : Joint) (x : ℕ) (role : Role) (way other : Direction) → slice_get p.joints x ≡ Some j → t.contact.role ≡ role → t.seat.joint ≡ x
        → ways_by role x ≡ record { arriving = place_of x way; leaving = place_of x other } → target j way ≡ e → source j other ≡ e
        → ArrivesAt p w.arriving e × LeavesAt p w.leaving e
    by_role j x role way other stands is number ways arrives leaves =
        let same : w ≡ record { arriving = place_of x way; leaving = place_of x other } =
        t.is ∙ (ap₂ ways_by is number ∙ ways) in (
          (
            record { joint = x; way = way; number = ap (λ (v : Ways). v.arriving) same; passed = j; stands = stands },
            arrives,
          ),
          (
            record { joint = x; way = other; number = ap (λ (v : Ways). v.leaving) same; passed = j; stands = stands },
            leaves,
          ),
        )

    by_side : Seated 0 p.joints e t.seat → ArrivesAt p w.arriving e × LeavesAt p w.leaving e
    by_side s =
        let fits = joint_fits p [] p.joints s.place s.at_joint right s.found in
        let number : t.seat.joint ≡ s.place = s.number ∙ zero-add s.place in
        by_end s.side fits.2 fits.3 number
      where
        by_end : IsSide s.at_joint e t.seat → {q a : ℕ} → contact_at p s.at_joint.asking ≡ Some (asks q a)
            → contact_at p s.at_joint.serving ≡ Some (serves q a)
            → t.seat.joint ≡ s.place
            → ArrivesAt p w.arriving e × LeavesAt p w.leaving e
        by_end (inl (end, way, other)) {q} {a} asking serving number =
            let role = same_Some t.contact (asks q a) (sym t.there ∙ (ap (contact_at p) end ∙ asking)) in
            by_role s.at_joint s.place Ask Answer Request s.found (ap (λ (c : Contact). c.role) role) number refl (sym end) (sym end)
        by_end (inr (end, way, other)) {q} {a} asking serving number =
            let role = same_Some t.contact (serves q a) (sym t.there ∙ (ap (contact_at p) end ∙ serving)) in
            by_role s.at_joint s.place Serve Request Answer s.found (ap (λ (c : Contact). c.role) role) number refl (sym end) (sym end)

-- what arrives at an end, or leaves it, is told there
arrival_told : (p : Plan) (table : Arrivals) (e : End) (a : ℕ) → AreAt p (joint_at p) table → IsRight p → ArrivesAt p a e
    → (w : Ways) × (ways_at table e ≡ Some w) × (a ≡ w.arriving)
arrival_told p table e a are right (x, here) = by_way x.way refl
  where
    seat : seat_of p e ≡ Some (record { joint = x.joint; way = x.way; other = source x.passed x.way })
    seat = sym (ap (seat_of p) here) ∙ seat_there p x.joint x.passed x.way right x.stands

    by_way : (way : Direction) → x.way ≡ way → (w : Ways) × (ways_at table e ≡ Some w) × (a ≡ w.arriving)
    by_way Request is =
        let fits = joint_fits p [] p.joints x.joint x.passed right x.stands in
        let end : x.passed.serving ≡ e = sym (ap (target x.passed) is) ∙ here in
        let there : contact_at p e ≡ Some (serves fits.0 fits.1) = sym (ap (contact_at p) end) ∙ fits.3 in
        (ways_by Serve x.joint, ways_seated p table e (serves fits.0 fits.1) _ are there seat, x.number ∙ ap (place_of x.joint) is)
    by_way Answer is =
        let fits = joint_fits p [] p.joints x.joint x.passed right x.stands in
        let end : x.passed.asking ≡ e = sym (ap (target x.passed) is) ∙ here in
        let there : contact_at p e ≡ Some (asks fits.0 fits.1) = sym (ap (contact_at p) end) ∙ fits.2 in
        (ways_by Ask x.joint, ways_seated p table e (asks fits.0 fits.1) _ are there seat, x.number ∙ ap (place_of x.joint) is)

leaving_told : (p : Plan) (table : Arrivals) (e : End) (a : ℕ) → AreAt p (joint_at p) table → IsRight p → LeavesAt p a e
    → (w : Ways) × (ways_at table e ≡ Some w) × (a ≡ w.leaving)
leaving_told p table e a are right (x, here) = by_way x.way refl
  where
    by_way : (way : Direction) → x.way ≡ way → (w : Ways) × (ways_at table e ≡ Some w) × (a ≡ w.leaving)
    by_way Request is =
        let fits = joint_fits p [] p.joints x.joint x.passed right x.stands in
        let end : x.passed.asking ≡ e = sym (ap (source x.passed) is) ∙ here in
        let there : contact_at p e ≡ Some (asks fits.0 fits.1) = sym (ap (contact_at p) end) ∙ fits.2 in
        let seat = sym (ap (seat_of p) end) ∙ seat_there p x.joint x.passed Answer right x.stands in
        (ways_by Ask x.joint, ways_seated p table e (asks fits.0 fits.1) _ are there seat, x.number ∙ ap (place_of x.joint) is)
    by_way Answer is =
        let fits = joint_fits p [] p.joints x.joint x.passed right x.stands in
        let end : x.passed.serving ≡ e = sym (ap (source x.passed) is) ∙ here in
        let there : contact_at p e ≡ Some (serves fits.0 fits.1) = sym (ap (contact_at p) end) ∙ fits.3 in
        let seat = sym (ap (seat_of p) end) ∙ seat_there p x.joint x.passed Request right x.stands in
        (ways_by Serve x.joint, ways_seated p table e (serves fits.0 fits.1) _ are there seat, x.number ∙ ap (place_of x.joint) is)

-- the edges through all parts are those of the graph of directions
pub edges_inner : (making : ℕ → Making) (p : Plan) (table : Arrivals) (edges : List Edge) → AreAt p (joint_at p) table → IsRight p
    → Adds (PassesAt (directions p) table making p.parts (length p.parts)) [] edges
    → (a b : ℕ) → HasEdge edges a b ↔ IsInner making p a b
edges_inner making p table edges are right adds a b = (forth, back)
  where
    through : PassesAt (directions p) table making p.parts (length p.parts) a b → IsInner making p a b
    through (part, k, low, there, (from, from_low, (to, to_low, passes, x))) =
        let first = told_ways p (PartEnd part from) x.first right (told p table (PartEnd part from) x.first are x.comes) in
        let second = told_ways p (PartEnd part to) x.second right (told p table (PartEnd part to) x.second are x.goes) in (
          x.second.leaving,
          x.leaving,
          record {
            part = part;
            kind = k;
            there = there;
            from = from;
            from_there = from_low;
            arrives = subst (λ (m : ℕ). ArrivesAt p m (PartEnd part from)) (sym x.arriving) first.0;
            to = to;
            to_there = to_low;
            leaves = second.1;
            passes = passes;
          },
        )

    forth : HasEdge edges a b → IsInner making p a b
    forth edge = elim ((adds a b).0 edge) [ inl none ↦ absurd none | inr x ↦ through x ]

    back : IsInner making p a b → HasEdge edges a b
    back (d, is, t) =
        let first = arrival_told p table (PartEnd t.part t.from) a are right t.arrives in
        let second = leaving_told p table (PartEnd t.part t.to) d are right t.leaves in
        (adds a b).1
        (inr (
          t.part,
          t.kind,
          slice_get_within p.parts t.part t.kind t.there,
          t.there,
          (
            t.from,
            t.from_there,
            (
              t.to,
              t.to_there,
              t.passes,
              record {
                first = first.0;
                comes = first.1;
                second = second.0;
                goes = second.1;
                arriving = first.2;
                leaving = is ∙ ap (λ (m : ℕ). directions p + m) second.2;
              },
            ),
          ),
        ))

-- joints have small numbers, where there are few, and each direction is one of all
joint_low : (n : ℕ) (js : List Joint) (e : End) (x : ℕ) → number_in (joint_among n js e) ≡ Some x → x < n + length js
joint_low n [] e x is = absurd (none-some x is)
joint_low n (j ∷ js) e x is = by_tests (same_end e j.asking) (same_end e j.serving) (λ h. joint_low (suc n) js e x h) is
  where
    here : Some n ≡ Some x → x < n + suc (length js)
    here same = let one = same_Some n x same in omega (arith, one)

    by_tests : (a b : Bool) → (number_in (joint_among (suc n) js e) ≡ Some x → x < suc n + length js)
        → number_in (or_else (or_else (some_if a (Cells n)) (some_if b (Cells n))) (joint_among (suc n) js e)) ≡ Some x
        → x < n + suc (length js)
    by_tests true b rest found = here found
    by_tests false true rest found = here found
    by_tests false false rest found = let low = rest found in omega (arith, low)

pub joints_small : (p : Plan) (table : Arrivals) → AreAt p (joint_at p) table → length p.joints < 2147483647 → HasSmallJoints table
joints_small p table are few e a x there is = by_contact (contact_at p e) (sym (are e) ∙ there)
  where
    by_contact : (o : Option Contact) → arrival_if (joint_at p e) o ≡ Some a → x < 2147483647
    by_contact None found = absurd (none-some a found)
    by_contact (Some c) found =
        let same = same_Some (record { contact = held_contact c; origin = joint_at p e }) a found in
        let low = joint_low 0 p.joints e x (ap (λ (y : Arrival). number_in y.origin) same ∙ is) in omega (arith, low, few)

pub ways_within : (p : Plan) (table : Arrivals) → AreAt p (joint_at p) table → IsRight p → AreWithin (directions p) table
ways_within p table are right e w is =
    let both = told_ways p e w right (told p table e w are is) in (direction_low p w.arriving both.0.0, direction_low p w.leaving both.1.0)

-- what is chosen by these edges is few, in terms of the plan
pub few_by : (making : ℕ → Making) (p : Plan) (d n : ℕ) (table : Arrivals) (start edges : List Edge) (keeps : List Bool) → d ≡ directions p → n ≡ length p.parts
    → AreAt p (joint_at p) table
    → IsRight p
    → start ≡ []
    → Adds (PassesAt d table making p.parts n) start edges
    → AreFew d edges keeps
    → length keeps ≡ d
    → KeepsFewRings making p keeps
few_by making p d n table start edges keeps all parts are right none adds few long =
    let inner : Adds (PassesAt (directions p) table making p.parts (length p.parts)) [] edges =
    subst (λ (m : ℕ). Adds (PassesAt m table making p.parts (length p.parts)) [] edges) all
    (subst (λ (m : ℕ). Adds (PassesAt d table making p.parts m) [] edges) parts (subst (λ (es : List Edge). Adds (PassesAt d table making p.parts n) es edges) none adds)) in
    few_rings making p edges (edges_inner making p table edges are right inner) keeps (long ∙ all) (subst (λ (m : ℕ). AreFew m edges keeps) all few)

-- and so is the graph
pub graph_by : (making : ℕ → Making) (p : Plan) (d n : ℕ) (table : Arrivals) (start : List Edge) (built after : Graph) (keeps : List Bool) → d ≡ directions p
    → n ≡ length p.parts
    → AreAt p (joint_at p) table
    → IsRight p
    → start ≡ []
    → Adds (PassesAt d table making p.parts n) start built.edges
    → built.nodes ≡ d + d
    → after.nodes ≡ built.nodes
    → after.edges ≡ linked d built.edges 0 keeps
    → length keeps ≡ d
    → IsGraphOf (laying (chosen keeps) making) p after
graph_by making p d n table start built after keeps all parts are right none adds nodes same edges long =
    record {
      nodes = same ∙ (nodes ∙ (λ i. all i + all i));
      edges =
          subst (λ (es : List Edge). AreEdges (laying (chosen keeps) making) p es)
          (sym (edges ∙ ap (λ (m : ℕ). linked m built.edges 0 keeps) all))
          (graph_of_all making p built.edges (edges_inner making p table built.edges are right inner) keeps (long ∙ all));
    }
  where
    inner : Adds (PassesAt (directions p) table making p.parts (length p.parts)) [] built.edges
    inner =
        subst (λ (m : ℕ). Adds (PassesAt m table making p.parts (length p.parts)) [] built.edges) all
        (subst (λ (m : ℕ). Adds (PassesAt d table making p.parts m) [] built.edges) parts
        (subst (λ (es : List Edge). Adds (PassesAt d table making p.parts n) es built.edges) none adds))
