-- How the whole stands as its plans do.
--
-- What is open at an asking end of the whole is so where it stands in its plan; a token of the whole lies on some joint of the
-- trail; each open joint of a plan has a trail that leads to it; linked ports are open together. So where the last joint of a
-- trail is open the first one is, and those between are empty.
use Rattle.std.specs.Prelude.{ℕ, zero, suc, ◌+◌, Bool, true, false, List, Option, Some, None, slice_get}
use Rattle.std.proofs.Common.{◌≡◌, ◌⊎◌, inl, inr, refl, sym, ◌∙◌, ap, arith}
use Rattle.gos_types.specs.declared.shakes.Role.TheVariants.{Serve, Ask}
use Rattle.gos_types.specs.Handshakes.{turned}
use Rattle.gos_types.specs.Events.{Direction, Request, Answer}
use Rattle.gos_plan.specs.Kinds.{Part, Contact, asks, serves, turned_contact}
use Rattle.gos_plan.specs.Plans.{End, PartEnd, ImportEnd, ResultEnd, Plan, contact_at, contacts_of_part}
use Rattle.gos_plan.specs.Tokens.{Tokens, IsPortEnd, places_of}
use Rattle.gos_plan.specs.Orderly.{Open}
use Rattle.gos_plan.specs.Joining.{Place, place, Wiring, JoinedWithin, Linked, origin, IsJoining}
use Rattle.gos_plan.proofs.JointLemmas.{IsIn, stands_there, contained, listed, serving_stands}
use Rattle.gos_realises.specs.realises.Regular.{Pass, is_open}
use Rattle.gos_realises.specs.realises.Links.{contact_of, LinksFit}
use Rattle.gos_joining.specs.webs.Webs.{joint}
use Rattle.gos_realises.proofs.joined.ReachLemmas.{Paths, paths_then}
use Rattle.gos_realises.proofs.joined.StepLemmas.{IsOutside, IsPart}
use Rattle.gos_realises.proofs.joined.OriginLemmas.{at_origin, sort, sort_of, before, part_of}
use Rattle.gos_joining.specs.unions.Unions.{HasFieldsOf}
use Rattle.gos_joining.proofs.unions.PlaceLemmas.{fields_of, same_contact, stands_at, stands_alone}
use Rattle.gos_supplies.proofs.turns.StandLemmas.{Stands}
use Rattle.gos_supplies.proofs.turns.TrailLemmas.{LinksArePorts, IsUnlinked, AsksAt, Segment, Trail, contact_place, plan_at, link_ports, segment_roles, path_trail}

-- a plan's open handshakes, what passed its ports, and its tokens; of all plans, by number
pub record Stand : Type 0 where
  pub opens : Open
  pub past : List Pass
  pub tokens : Tokens

abbrev pub Family : Type 0
Family = ℕ → Stand

abbrev pub open_at : Family → Place → Bool
open_at F c = (F c.plan).opens c.end

abbrev pub lying : Family → Direction → Place → Option ℕ
lying F way c = (F c.plan).tokens.in_place way c.end

abbrev pub shown : Family → Place → Bool
shown F c = is_open (F c.plan).past c.end

-- a token lies on a trail from the place
abbrev pub OnTrail : Wiring → Family → Place → Direction → ℕ → Type 0
OnTrail w F a way v = (n : ℕ) × (c : Place) × Trail w n a c × (lying F way c ≡ Some v)

-- a trail leads to the place from an end of the whole that asks
abbrev pub HasSource : Wiring → Plan → Place → Type 0
HasSource w r c = (a : End) × (x : Contact) × (contact_at r a ≡ Some x) × (x.role ≡ Ask) × (n : ℕ) × Trail w n (origin w a) c

-- no link joins the place, and no end of the whole stands there
abbrev pub IsLoose : Wiring → Plan → Place → Type 0
IsLoose w r a = IsUnlinked w a × ((e : End) (c : Contact) → contact_at r e ≡ Some c → origin w e ≡ a → ⊥)

-- The whole stands as its plans do. A Share may put a token beyond its handshakes: what is lost there is open in both.
pub record Follows (w : Wiring) (r : Plan) (F : Family) (o : Open) (past : List Pass) (s : Tokens) : Type 0 where
  pub stands : (k : ℕ) (p : Plan) → slice_get w.plans k ≡ Some p → Stands p (F k).opens (is_open (F k).past) (F k).tokens
  pub agree : (a b : Place) → Linked w a b → shown F a ≡ shown F b
  pub opens : (e : End) (c : Contact) → contact_at r e ≡ Some c → c.role ≡ Ask → o e ≡ open_at F (origin w e)
  pub lies : (a b : End) → IsIn (joint a b) r.joints → (way : Direction) (v : ℕ) → s.in_place way a ≡ Some v → OnTrail w F (origin w a) way v
  pub source : (c : Place) → AsksAt w c → open_at F c ≡ true → HasSource w r c
  pub lost :
      (i h : ℕ) (f : Part) → slice_get r.parts i ≡ Some f → contact_at r (PartEnd i h) ≡ None → o (PartEnd i h) ≡ open_at F (origin w (PartEnd i h))
  pub ports : (e : End) (c : Contact) → IsPortEnd e → contact_at r e ≡ Some c → is_open past e ≡ shown F (origin w e)
  pub dead : (a : Place) → IsPortEnd a.end → IsLoose w r a → shown F a ≡ false

-- where a part of the whole is: its plan and its number there
pub record Seat (w : Wiring) (i : ℕ) (f : Part) : Type 0 where
  pub plan : ℕ
  pub part : ℕ
  pub of : Plan
  pub is : slice_get w.plans plan ≡ Some of
  pub has : slice_get of.parts part ≡ Some f
  pub number : i ≡ before w.plans plan + part
  pub stands : (h : ℕ) → origin w (PartEnd i h) ≡ place plan (PartEnd part h)

port_by_sort : (d e : End) → sort d ≡ sort e → IsPortEnd e → IsPortEnd d
port_by_sort (PartEnd i h) (PartEnd j g) same port = port
port_by_sort (PartEnd i h) (ImportEnd j g) same port = absurd (omega (arith, same))
port_by_sort (PartEnd i h) (ResultEnd g) same port = absurd (omega (arith, same))
port_by_sort (ImportEnd i h) e same port = tt
port_by_sort (ResultEnd h) e same port = tt

no_part : (e : End) → IsPart e → IsPortEnd e → ⊥
no_part (PartEnd i h) part port = port
no_part (ImportEnd i h) part port = part
no_part (ResultEnd h) part port = part

each_way : (F : Family) (b : Place) → lying F Request b ≡ None → lying F Answer b ≡ None → (way : Direction) → lying F way b ≡ None
each_way F b q a Request = q
each_way F b q a Answer = a

module _ (w : Wiring) (r : Plan) (fit : LinksFit w) (ported : LinksArePorts w) (whole : IsJoining w r) where
  has : HasFieldsOf w r
  has = fields_of w r whole

  -- where an end of the whole stands
  pub at_place : (e : End) (c : Contact) → contact_at r e ≡ Some c → contact_of w (origin w e) ≡ Some c
  at_place e c there = stands_at w r has e c there

  pub is_free : (e : End) (c : Contact) → contact_at r e ≡ Some c → IsUnlinked w (origin w e)
  is_free e c there b linked = by_case (at_origin w fit r.joints e c (sym (same_contact w r r.joints has e) ∙ there)).1
    where
      by_case : IsOutside w (origin w e) → ⊥
      by_case (inl part) = no_part (origin w e).end part (link_ports w fit ported (origin w e) b linked).0
      by_case (inr none) = none b linked

  pub is_alone : (a b : End) (c d : Contact) → contact_at r a ≡ Some c → contact_at r b ≡ Some d → origin w a ≡ origin w b → a ≡ b
  is_alone = stands_alone w r has

  pub port_there : (e : End) (c : Contact) → contact_at r e ≡ Some c → IsPortEnd e → IsPortEnd (origin w e).end
  port_there e c there port = port_by_sort (origin w e).end e (sort_of w r.joints e c (sym (same_contact w r r.joints has e) ∙ there)) port

  pub sort_there : (e : End) (c : Contact) → contact_at r e ≡ Some c → sort (origin w e).end ≡ sort e
  sort_there e c there = sort_of w r.joints e c (sym (same_contact w r r.joints has e) ∙ there)

  -- the parts of the whole
  pub seat : (i : ℕ) (f : Part) → slice_get r.parts i ≡ Some f → Seat w i f
  seat i f is =
      let there = part_of 0 w.plans i f (ap (λ (fs : List Part). slice_get fs i) (sym has.parts) ∙ is) in
      let sum : 0 + there.plan ≡ there.plan = omega arith in
      record {
        plan = there.plan;
        part = there.part;
        of = there.of;
        is = there.is;
        has = there.has;
        number = there.number;
        stands = λ h. there.stands h ∙ ap (λ (k : ℕ). place k (PartEnd there.part h)) sum;
      }

  pub seat_contact : (i h : ℕ) (f : Part) → slice_get r.parts i ≡ Some f → contact_of w (origin w (PartEnd i h)) ≡ contact_at r (PartEnd i h)
  seat_contact i h f is =
      let t = seat i f is in
      ap (contact_of w) (t.stands h)
      ∙ (contact_place w (place t.plan (PartEnd t.part h)) t.of t.is ∙ ap (λ (o : Option Part). slice_get (contacts_of_part o) h) (t.has ∙ sym is))

  pub one_seat : (i j h g : ℕ) (f k : Part) → slice_get r.parts i ≡ Some f → slice_get r.parts j ≡ Some k → origin w (PartEnd i h) ≡ origin w (PartEnd j g)
      → (i ≡ j) × (h ≡ g)
  one_seat i j h g f k is also same =
      let s = seat i f is in
      let t = seat j k also in
      let places : place s.plan (PartEnd s.part h) ≡ place t.plan (PartEnd t.part g) = sym (s.stands h) ∙ (same ∙ t.stands g) in
      let plans : s.plan ≡ t.plan = ap (λ (x : Place). x.plan) places in
      let ends : PartEnd s.part h ≡ PartEnd t.part g = ap (λ (x : Place). x.end) places in
      let parts : s.part ≡ t.part = cc ends in
      let shakes : h ≡ g = cc ends in
      (s.number ∙ ((λ n. before w.plans (plans n) + parts n) ∙ sym t.number), shakes)

  -- the joints of the whole are trails
  pub joint_trail : (a b : End) → IsIn (joint a b) r.joints
      → ((c : Contact) × (contact_at r a ≡ Some c) × (c.role ≡ Ask)) × ((c : Contact) × (contact_at r b ≡ Some c) × (c.role ≡ Serve))
      × ((n : ℕ) × (d : Place) × (e : End) × Trail w n (origin w a) d × Segment w d e × (origin w b ≡ place d.plan e))
  joint_trail a b joined =
      let (q, v, n, at_a, at_b, path) = (whole.joints a b).0 (listed r.joints (joint a b) joined) in (
        (asks q v, at_a, refl),
        (serves q v, at_b, refl),
        path_trail w fit ported n (origin w a) (origin w b) (is_free a (asks q v) at_a) (asks q v, at_place a (asks q v) at_a, refl)
            (serves q v, at_place b (serves q v) at_b, refl) path,
      )

  step_within : (b : Place) (e : End) → Segment w b e → JoinedWithin w b (place b.plan e)
  step_within b e (p, is, has) = (p, joint b.end e, refl, is, listed p.joints (joint b.end e) has, inl (refl, refl))

  trail_paths : (n : ℕ) (a c : Place) → Trail w n a c → Paths w a c
  trail_paths zero a c e = (0, e)
  trail_paths (suc n) a c (b, e, t, seg, linked, asks) =
      paths_then w a b c (trail_paths n a b t) (2, (place b.plan e, inl (step_within b e seg), (c, inr linked, refl)))

  pub trail_joint : (a b : End) (c d : Contact) (n : ℕ) (x : Place) (e : End) → contact_at r a ≡ Some c → c.role ≡ Ask → contact_at r b ≡ Some d → d.role ≡ Serve
      → Trail w n (origin w a) x → Segment w x e → origin w b ≡ place x.plan e → IsIn (joint a b) r.joints
  trail_joint a b c d n x e at_a asks_a at_b serves_b t seg at =
      let (m, path) =
      paths_then w (origin w a) x (origin w b) (trail_paths n (origin w a) x t) (1, (place x.plan e, inl (step_within x e seg), sym at)) in
      let turn = whole.fits a b c d m at_a at_b apart path in
      contained r.joints (joint a b) ((whole.joints a b).1
      (c.ask_bits, c.answer_bits, m, at_a ∙ ap Some (asking c asks_a), at_b ∙ ap Some (turn ∙ serving c asks_a), path))
    where
      apart : a ≡ b → ⊥
      apart same =
          let one : Some c ≡ Some d = sym at_a ∙ (ap (contact_at r) same ∙ at_b) in
          let is : c ≡ d = cc one in
          let roles : Ask ≡ Serve = sym asks_a ∙ (ap (λ (y : Contact). y.role) is ∙ serves_b) in cc roles

      asking : (y : Contact) → y.role ≡ Ask → y ≡ asks y.ask_bits y.answer_bits
      asking y role = λ i. record y { role = role i }

      serving : (y : Contact) → y.role ≡ Ask → turned_contact y ≡ serves y.ask_bits y.answer_bits
      serving y role = λ i. record y { role = turned (role i) }

  -- where the last joint of a trail is open the first one is, and it is the last or empty
  pub chain : (F : Family) → ((k : ℕ) (p : Plan) → slice_get w.plans k ≡ Some p → Stands p (F k).opens (is_open (F k).past) (F k).tokens)
      → ((a b : Place) → Linked w a b → shown F a ≡ shown F b) → (n : ℕ) (c x : Place) → Trail w n c x → open_at F x ≡ true
      → (open_at F c ≡ true) × ((c ≡ x) ⊎ ((way : Direction) → lying F way c ≡ None))
  chain F stands agree zero c x same up = (ap (open_at F) same ∙ up, inl same)
  chain F stands agree (suc n) c x (b, e, t, seg, linked, (cx, there, asking)) up =
      let (p, is, at) = plan_at w x cx there in
      let port = (link_ports w fit ported (place b.plan e) x linked).1 in
      let seen : shown F x ≡ true = sym ((stands x.plan p is).asks_open x.end cx port at asking) ∙ up in
      let also : shown F (place b.plan e) ≡ true = agree (place b.plan e) x linked ∙ seen in
      let own = before b e seg (link_ports w fit ported (place b.plan e) x linked).0 also in
      let first = chain F stands agree n c b t own.0 in
      (first.0, inr (elim first.1 [ inl same ↦ (λ way. ap (lying F way) same ∙ own.1 way) | inr empty ↦ empty ]))
    where
      before : (b : Place) (e : End) → Segment w b e → IsPortEnd e → shown F (place b.plan e) ≡ true → (open_at F b ≡ true) × ((way : Direction) → lying F way b ≡ None)
      before b e (p, is, joined) port also =
          let (cy, at_y, serving) = (segment_roles w fit ported b e (p, is, joined)).1 in
          let at_e : contact_at p e ≡ Some cy = sym (contact_place w (place b.plan e) p is) ∙ at_y in
          let (a, named, a_open, request, answer) = (stands b.plan p is).serves_open e cy port at_e serving also in
          let here : places_of p e ≡ Some b.end = stands_there p (joint b.end e) e (fit.right b.plan p is) joined (serving_stands (joint b.end e)) in
          let same : a ≡ b.end = cc (named, here) in
          (ap (F b.plan).opens (sym same) ∙ a_open, each_way F b (ap ((F b.plan).tokens.in_place Request) (sym same) ∙ request) (ap ((F b.plan).tokens.in_place Answer) (sym same) ∙ answer))

-- the states of parts don't matter
pub follows_same : (w : Wiring) (r : Plan) (F : Family) (o : Open) (past : List Pass) (s t : Tokens) → t.in_place ≡ s.in_place → Follows w r F o past s → Follows w r F o past t
follows_same w r F o past s t same so =
    record {
      stands = so.stands;
      agree = so.agree;
      opens = so.opens;
      lies = λ a b joined way v held. so.lies a b joined way v (sym (λ i. same i way a) ∙ held);
      source = so.source;
      lost = so.lost;
      ports = so.ports;
      dead = so.dead;
    }
