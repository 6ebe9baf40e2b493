-- The whole goes on as its plans do: each plan has a list of its own so far, and what is open at its ports keeps its turns.
--
-- A token goes along its trail from plan to plan; the whole stands as before, and each plan has gone on.
use Rattle.std.specs.Prelude.{ℕ, zero, suc, ◌<◌, ◌^◌, Bool, true, false, List, Some, None, All, slice_get, nat_eq, if◌then◌else◌}
use Rattle.std.proofs.Common.{◌≡◌, ◌∷◌, inl, inr, refl, sym, ◌∙◌, ap, subst, arith}
use Rattle.gos_types.specs.declared.shakes.Role.{Role}
use Rattle.gos_types.specs.declared.shakes.Role.TheVariants.{Serve, Ask}
use Rattle.gos_types.specs.Handshakes.{turned}
use Rattle.gos_types.specs.Events.{Direction, Request, Answer}
use Rattle.gos_plan.specs.Kinds.{Part, Contact, turned_contact}
use Rattle.gos_plan.specs.Plans.{End, Joint, Plan, contact_at, IsRight}
use Rattle.gos_plan.specs.Tokens.{Tokens, IsPortEnd, places_of, held_at, token_at, with_token, bits_of, way_taken, way_put}
use Rattle.gos_plan.specs.TokenBits.{LiteralFits}
use Rattle.gos_plan.specs.Orderly.{Open, after_taken, after_put, ComesWell}
use Rattle.gos_plan.specs.Joining.{Place, place, Wiring, Linked, origin, IsJoining}
use Rattle.gos_plan.proofs.JointLemmas.{IsIn, stands_there, asking_stands, serving_stands}
use Rattle.gos_plan.proofs.TurnLemmas.{token_state}
use Rattle.gos_plan.proofs.TokenBitsLemmas.{all_stay_fit, idle_fits}
use Rattle.gos_realises.specs.realises.Regular.{Pass, pass, is_open, KeepsTurnsOf, whole_type, whole_end, ComesInTurn, IsRegular}
use Rattle.gos_realises.specs.realises.Links.{contact_of, LinksFit}
use Rattle.gos_joining.specs.webs.Webs.{joint}
use Rattle.gos_plan.proofs.DecidedLemmas.{Told}
use Rattle.gos_plan.proofs.ContactLemmas.{turned_bits, turned_put}
use Rattle.gos_plan.proofs.WiringLemmas.{linked_back, place_is}
use Rattle.gos_plan.proofs.ProjectionLemmas.{port_by_itself}
use Rattle.gos_realises.proofs.joined.ReachLemmas.{told_number, told_place}
use Rattle.gos_realises.proofs.realises.PassLemmas.{same_turn}
use Rattle.gos_supplies.proofs.turns.StandLemmas.{asks_own, serves_in, opened_here, Stands, open_by_fit, taken_stands, put_stands, taken_apart, put_apart, well_empty}
use Rattle.gos_supplies.proofs.turns.RunLemmas.{Reached, out_next, in_next}
use Rattle.gos_supplies.proofs.turns.TrailLemmas.{LinksArePorts, IsUnlinked, AsksAt, Segment, Trail, contact_place, link_one, link_ports, link_apart, link_contacts, segment_roles, trail_first}
use Rattle.gos_supplies.proofs.turns.FollowLemmas.{Stand, Family, open_at, lying, HasSource, IsLoose, Follows, Seat}
use Rattle.gos_supplies.proofs.turns.CrossLemmas.{Cross, lying_there, follows_across}

-- what is open at a plan's ports keeps its turns
abbrev pub IsTurned : Plan → List Pass → Type 0
IsTurned p past = KeepsTurnsOf (whole_type p.imports p.outcome) (λ h. is_open past (whole_end 0 p.imports h))

-- of all plans; what is open at linked ports agrees, and at the ports of the whole
abbrev pub AllTurned : Wiring → (ℕ → List Pass) → Type 0
AllTurned w P = (k : ℕ) (p : Plan) → slice_get w.plans k ≡ Some p → IsTurned p (P k)

abbrev pub AllAgree : Wiring → (ℕ → List Pass) → Type 0
AllAgree w P = (a b : Place) → Linked w a b → is_open (P a.plan) a.end ≡ is_open (P b.plan) b.end

abbrev pub PortsAgree : Wiring → Plan → (ℕ → List Pass) → List Pass → Type 0
PortsAgree w r P past = (e : End) (c : Contact) → IsPortEnd e → contact_at r e ≡ Some c → is_open past e ≡ is_open (P (origin w e).plan) (origin w e).end

-- what stands for nothing in the whole is closed
abbrev pub LooseShut : Wiring → Plan → (ℕ → List Pass) → Type 0
LooseShut w r P = (a : Place) → IsPortEnd a.end → IsLoose w r a → is_open (P a.plan) a.end ≡ false

-- Turns pass through a wiring: what keeps turns at one end of a link does at the other, what comes to the whole does where it
-- comes to a plan, and what leaves a plan does where it leaves the whole.
pub record PassesTurns (w : Wiring) (r : Plan) : Type 0 where
  pub crosses :
      (P : ℕ → List Pass) → AllAgree w P → LooseShut w r P → AllTurned w P → (a b : Place) (p q : Plan) (c : Contact) (way : Direction) → Linked w a b
      → slice_get w.plans a.plan ≡ Some p → slice_get w.plans b.plan ≡ Some q → contact_at p a.end ≡ Some c → way_taken c.role ≡ way
      → IsTurned p (pass a.end way ∷ P a.plan) → IsTurned q (pass b.end way ∷ P b.plan)
  pub enters :
      (P : ℕ → List Pass) (past : List Pass) → AllAgree w P → PortsAgree w r P past → LooseShut w r P → AllTurned w P → IsTurned r past
      → (e : End) (p : Plan) (c : Contact) (way : Direction) → IsPortEnd e → contact_at r e ≡ Some c
      → slice_get w.plans (origin w e).plan ≡ Some p → way_put c.role ≡ way
      → IsTurned r (pass e way ∷ past) → IsTurned p (pass (origin w e).end way ∷ P (origin w e).plan)
  pub leaves :
      (P : ℕ → List Pass) (past : List Pass) → AllAgree w P → PortsAgree w r P past → LooseShut w r P → AllTurned w P → IsTurned r past
      → (e : End) (p : Plan) (c : Contact) (way : Direction) → IsPortEnd e → contact_at r e ≡ Some c
      → slice_get w.plans (origin w e).plan ≡ Some p → way_taken c.role ≡ way
      → IsTurned p (pass (origin w e).end way ∷ P (origin w e).plan) → IsTurned r (pass e way ∷ past)

-- the whole goes on as its plans do
pub record Goes (w : Wiring) (r : Plan) (F : Family) (o : Open) (past : List Pass) (s : Tokens) : Type 0 where
  pub follows : Follows w r F o past s
  pub reached : (k : ℕ) (p : Plan) → slice_get w.plans k ≡ Some p → Reached p (F k).opens (F k).past (F k).tokens
  pub turned : AllTurned w (λ k. (F k).past)
  pub outer : IsTurned r past
  pub states : (i : ℕ) (f : Part) (t : Seat w i f) → slice_get r.parts i ≡ Some f → s.state i ≡ (F t.plan).tokens.state t.part

abbrev pub SameStates : Family → Family → Type 0
SameStates F G = (k i : ℕ) → (G k).tokens.state i ≡ (F k).tokens.state i

-- the whole goes on as it did, and the token lies at the place
abbrev pub Led : Wiring → Plan → Family → Open → List Pass → Tokens → Direction → Place → ℕ → Type 0
Led w r F o past s way y v = (G : Family) × Goes w r G o past s × (lying G way y ≡ Some v) × SameStates F G

-- one plan stands otherwise
abbrev pub setting : ℕ → Stand → Family → Family
setting k x F m = if nat_eq m k then x else F m

pub set_here : (k : ℕ) (x : Stand) (F : Family) → setting k x F k ≡ x
set_here k x F = let one : nat_eq k k ≡ true = grind arith in rw one refl

pub set_else : (k : ℕ) (x : Stand) (F : Family) (m : ℕ) → (m ≡ k → ⊥) → setting k x F m ≡ F m
set_else k x F m apart = by_test (nat_eq m k) refl
  where
    by_test : (b : Bool) → nat_eq m k ≡ b → (if b then x else F m) ≡ F m
    by_test true t = absurd (apart (grind (arith, t)))
    by_test false t = refl

module _ (w : Wiring) (r : Plan) (fit : LinksFit w) (ported : LinksArePorts w) (whole : IsJoining w r)
    (regular : (k : ℕ) (p : Plan) → slice_get w.plans k ≡ Some p → IsRegular p)
    (literals : (k : ℕ) (p : Plan) → slice_get w.plans k ≡ Some p → All LiteralFits p.parts) (passes : PassesTurns w r) where
  pub small : (p : Plan) (o : Open) (past : List Pass) (s : Tokens) (k : ℕ) → slice_get w.plans k ≡ Some p → Reached p o past s → (e : End) (c : Contact) (way : Direction) (v : ℕ)
      → contact_at p e ≡ Some c → token_at p s e way ≡ Some v → v < 2 ^ bits_of c way
  small p o past s k is so e c way v there lies =
      (all_stay_fit p so.list so.first s (fit.right k p is) (literals k p is) (idle_fits p so.first so.idle) so.runs).0 e c way v there lies

  -- a token crosses a link
  cross_goes : (F : Family) (o : Open) (past : List Pass) (s : Tokens) → Goes w r F o past s → (a b : Place) (p q : Plan) (c : Contact) (way : Direction) (xa ya : End) (v : ℕ)
      → Linked w a b → slice_get w.plans a.plan ≡ Some p → slice_get w.plans b.plan ≡ Some q → contact_at p a.end ≡ Some c → way_taken c.role ≡ way
      → places_of p a.end ≡ Some xa → places_of q b.end ≡ Some ya → lying F way (place a.plan xa) ≡ Some v → Led w r F o past s way (place b.plan ya) v
  cross_goes F o past s so a b p q c way xa ya v linked is_p is_q there is named_a named_b lies = (G, goes, there_now, states)
    where
      apart : a.plan ≡ b.plan → ⊥
      apart = link_apart w fit ported a b linked

      right_p : IsRight p
      right_p = fit.right a.plan p is_p

      right_q : IsRight q
      right_q = fit.right b.plan q is_q

      port_a : IsPortEnd a.end
      port_a = (link_ports w fit ported a b linked).0

      port_b : IsPortEnd b.end
      port_b = (link_ports w fit ported a b linked).1

      there_b : contact_at q b.end ≡ Some (turned_contact c)
      there_b =
          let (d, one, other) = link_contacts w fit ported a b linked in
          let same : d ≡ c = cc (sym (contact_place w a p is_p) ∙ one, there) in
          sym (contact_place w b q is_q) ∙ (other ∙ ap (λ (x : Contact). Some (turned_contact x)) same)

      is_b : way_put (turned_contact c).role ≡ way
      is_b = turned_put c.role ∙ is

      lies_a : token_at p (F a.plan).tokens a.end way ≡ Some v
      lies_a = ap (held_at (F a.plan).tokens way) named_a ∙ lies

      out : ComesInTurn (F a.plan).past a.end way × IsTurned p (pass a.end way ∷ (F a.plan).past)
      out = (out_next p a.end c v (F a.plan).opens (F a.plan).past (F a.plan).tokens way (regular a.plan p is_p) (so.reached a.plan p is_p) port_a there is lies_a).0

      reached_a : Reached p (after_taken p a.end way (F a.plan).opens) (pass a.end way ∷ (F a.plan).past) (with_token p a.end way None (F a.plan).tokens)
      reached_a = (out_next p a.end c v (F a.plan).opens (F a.plan).past (F a.plan).tokens way (regular a.plan p is_p) (so.reached a.plan p is_p) port_a there is lies_a).1

      turned_b : IsTurned q (pass b.end way ∷ (F b.plan).past)
      turned_b = passes.crosses (λ k. (F k).past) so.follows.agree so.follows.dead so.turned a b p q c way linked is_p is_q there is out.1

      coming : ComesWell q b.end way (F b.plan).opens (F b.plan).tokens
          × Reached q (after_put q b.end way (F b.plan).opens) (pass b.end way ∷ (F b.plan).past) (with_token q b.end way (Some v) (F b.plan).tokens)
      coming =
          in_next q b.end (turned_contact c) v (F b.plan).opens (F b.plan).past (F b.plan).tokens way (regular b.plan q is_q) (so.reached b.plan q is_q) port_b there_b is_b
          (subst (λ (n : ℕ). v < 2 ^ n) (sym (turned_bits c way))
          (small p (F a.plan).opens (F a.plan).past (F a.plan).tokens a.plan is_p (so.reached a.plan p is_p) a.end c way v there lies_a))
          (same_turn (F a.plan).past (F b.plan).past a.end b.end way (so.follows.agree a b linked) out.0, turned_b)

      A : Stand
      A =
          record {
            opens = after_taken p a.end way (F a.plan).opens;
            past = pass a.end way ∷ (F a.plan).past;
            tokens = with_token p a.end way None (F a.plan).tokens;
          }

      B : Stand
      B =
          record {
            opens = after_put q b.end way (F b.plan).opens;
            past = pass b.end way ∷ (F b.plan).past;
            tokens = with_token q b.end way (Some v) (F b.plan).tokens;
          }

      G : Family
      G = setting a.plan A (setting b.plan B F)

      at_a : G a.plan ≡ A
      at_a = set_here a.plan A (setting b.plan B F)

      at_b : G b.plan ≡ B
      at_b = set_else a.plan A (setting b.plan B F) b.plan (λ same. apart (sym same)) ∙ set_here b.plan B F

      others : (m : ℕ) → (m ≡ a.plan → ⊥) → (m ≡ b.plan → ⊥) → G m ≡ F m
      others m not_a not_b = set_else a.plan A (setting b.plan B F) m not_a ∙ set_else b.plan B F m not_b

      each_plan : (Q : Plan → Stand → Type 0) → Q p A → Q q B → ((k : ℕ) (z : Plan) → slice_get w.plans k ≡ Some z → Q z (F k))
          → (m : ℕ) (z : Plan) → slice_get w.plans m ≡ Some z → Q z (G m)
      each_plan Q of_a of_b rest m z at = by_plan (told_number m a.plan) (told_number m b.plan)
        where
          by_plan : Told (m ≡ a.plan) → Told (m ≡ b.plan) → Q z (G m)
          by_plan (inl same) other =
              let plans : z ≡ p = cc (at, is_p, same) in
              subst (λ (y : Plan). Q y (G m)) (sym plans) (subst (λ (k : ℕ). Q p (G k)) (sym same) (subst (Q p) (sym at_a) of_a))
          by_plan (inr other) (inl same) =
              let plans : z ≡ q = cc (at, is_q, same) in
              subst (λ (y : Plan). Q y (G m)) (sym plans) (subst (λ (k : ℕ). Q q (G k)) (sym same) (subst (Q q) (sym at_b) of_b))
          by_plan (inr not_a) (inr not_b) = subst (Q z) (sym (others m not_a not_b)) (rest m z at)

      cross : Cross w F G a b (place a.plan xa) (place b.plan ya) way v p q
      cross =
          record {
            linked = linked;
            others = others;
            tokens_a = ap (λ (t : Stand). t.tokens.in_place) at_a;
            tokens_b = ap (λ (t : Stand). t.tokens.in_place) at_b;
            passed_a = λ d port. ap (λ (t : Stand). is_open t.past d) at_a;
            passed_b = λ d port. ap (λ (t : Stand). is_open t.past d) at_b;
            plan_x = refl;
            plan_y = refl;
            named_a = named_a;
            named_b = named_b;
            lies = lies;
            empty = well_empty q b.end ya way (F b.plan).opens (F b.plan).tokens coming.0 (so.follows.stands b.plan q is_q).fit named_b;
          }

      stands_then : (k : ℕ) (z : Plan) → slice_get w.plans k ≡ Some z → Stands z (G k).opens (is_open (G k).past) (G k).tokens
      stands_then =
          each_plan (λ (z : Plan) (t : Stand). Stands z t.opens (is_open t.past) t.tokens)
          (taken_stands p a.end c v (F a.plan).opens (is_open (F a.plan).past) (is_open (pass a.end way ∷ (F a.plan).past)) (F a.plan).tokens way right_p there is lies_a
          (λ d port. refl) (so.follows.stands a.plan p is_p))
          (put_stands q b.end (turned_contact c) v (F b.plan).opens (is_open (F b.plan).past) (is_open (pass b.end way ∷ (F b.plan).past)) (F b.plan).tokens way right_q
          there_b is_b coming.0 (λ d port. refl) (so.follows.stands b.plan q is_q)) so.follows.stands

      open_else : (z : Place) → (z ≡ a → ⊥) → (z ≡ b → ⊥) → open_at G z ≡ open_at F z
      open_else z not_a not_b = by_plan (told_number z.plan a.plan) (told_number z.plan b.plan)
        where
          by_plan : Told (z.plan ≡ a.plan) → Told (z.plan ≡ b.plan) → open_at G z ≡ open_at F z
          by_plan (inl same) other =
              ap (λ (m : ℕ). (G m).opens z.end) same
              ∙ (ap (λ (t : Stand). t.opens z.end) at_a
              ∙ (taken_apart p a.end z.end c (F a.plan).opens way right_p there is (λ ends. not_a (place_is z a same ends))
              ∙ ap (λ (m : ℕ). (F m).opens z.end) (sym same)))
          by_plan (inr other) (inl same) =
              ap (λ (m : ℕ). (G m).opens z.end) same
              ∙ (ap (λ (t : Stand). t.opens z.end) at_b
              ∙ (put_apart q b.end z.end (turned_contact c) (F b.plan).opens way right_q there_b is_b (λ ends. not_b (place_is z b same ends))
              ∙ ap (λ (m : ℕ). (F m).opens z.end) (sym same)))
          by_plan (inr other) (inr also) = ap (λ (t : Stand). t.opens z.end) (others z.plan other also)

      serving : c.role ≡ Serve → Segment w (place a.plan xa) a.end × AsksAt w b × (ya ≡ b.end)
      serving role =
          let (j, has, asking, serves) = serves_in p a.end xa c right_p there role named_a in
          let turns : (turned_contact c).role ≡ Ask = ap turned role in (
            (p, is_p, subst (λ (y : Joint). IsIn y p.joints) (λ i. joint (asking i) (serves i)) has),
            (turned_contact c, contact_place w b q is_q ∙ there_b, turns),
            asks_own q b.end ya (turned_contact c) right_q there_b turns named_b,
          )

      moved : (z : Place) (n : ℕ) → IsUnlinked w z → Trail w n z (place a.plan xa) → (m : ℕ) × Trail w m z (place b.plan ya)
      moved z n free t = by_role c.role refl
        where
          before : c.role ≡ Ask → (n : ℕ) → Trail w n z a → (m : ℕ) × Trail w m z (place b.plan ya)
          before role zero e = absurd (free b (subst (λ (y : Place). Linked w y b) (sym e) linked))
          before role (suc n) (b0, e0, t0, (p0, is0, has0), linked0, asks0) =
              let same : b ≡ place b0.plan e0 = link_one w fit ported a b (place b0.plan e0) linked (linked_back w (place b0.plan e0) a linked0) in
              let plans : b.plan ≡ b0.plan = ap (λ (y : Place). y.plan) same in
              let ends : b.end ≡ e0 = ap (λ (y : Place). y.end) same in
              let placed : places_of p0 e0 ≡ Some b0.end = stands_there p0 (joint b0.end e0) e0 (fit.right b0.plan p0 is0) has0 (serving_stands (joint b0.end e0)) in
              let those : p0 ≡ q = cc (is0, is_q, plans) in
              let named : places_of q b.end ≡ Some b0.end = (λ i. places_of (sym those i) (ends i)) ∙ placed in
              let names : ya ≡ b0.end = cc (named, named_b) in
              let whole_place : place b.plan ya ≡ b0 = place_is (place b.plan ya) b0 plans names in
              (n, subst (Trail w n z) (sym whole_place) t0)

          by_role : (role : Role) → c.role ≡ role → (m : ℕ) × Trail w m z (place b.plan ya)
          by_role Serve role =
              let (seg, asks, own) = serving role in
              let same : place b.plan ya ≡ b = place_is (place b.plan ya) b refl own in
              (suc n, (place a.plan xa, a.end, t, seg, subst (Linked w a) (sym same) linked, subst (AsksAt w) (sym same) asks))
          by_role Ask role =
              let own = asks_own p a.end xa c right_p there role named_a in
              before role n (subst (Trail w n z) (place_is (place a.plan xa) a refl own) t)

      source : (z : Place) → AsksAt w z → open_at G z ≡ true → HasSource w r z
      source z (k, at, asking) up = by_place (told_place z a) (told_place z b)
        where
          by_place : Told (z ≡ a) → Told (z ≡ b) → HasSource w r z
          by_place (inl same) other =
              let one : k ≡ c = cc (at, ap (contact_of w) same, contact_place w a p is_p, there) in
              let role : c.role ≡ Ask = ap (λ (x : Contact). x.role) (sym one) ∙ asking in
              let ways : Answer ≡ way = sym (ap way_taken role) ∙ is in
              let shut : after_taken p a.end way (F a.plan).opens a.end ≡ false =
              subst (λ (u : Direction). after_taken p a.end u (F a.plan).opens a.end ≡ false) ways
              (opened_here _ a.end false (F a.plan).opens (port_by_itself p a.end c right_p there role)) in
              let never : true ≡ false = sym up ∙ (ap (open_at G) same ∙ (ap (λ (t : Stand). t.opens a.end) at_a ∙ shut)) in
              cc never
          by_place (inr other) (inl same) =
              let one : k ≡ turned_contact c = cc (at, ap (contact_of w) same, contact_place w b q is_q, there_b) in
              of_role c.role refl (ap (λ (x : Contact). x.role) (sym one) ∙ asking)
            where
              of_role : (role : Role) → c.role ≡ role → turned c.role ≡ Ask → HasSource w r z
              of_role Ask role asks = let never : Serve ≡ Ask = sym (ap turned role) ∙ asks in cc never
              of_role Serve role asks =
                  let (seg, asks_b, own) = serving role in
                  let ways : way ≡ Request = sym is ∙ ap way_taken role in
                  let lies_q : (F a.plan).tokens.in_place Request xa ≡ Some v = (λ i. (F a.plan).tokens.in_place (sym ways i) xa) ∙ lies in
                  let up_x = (open_by_fit ((F a.plan).opens xa) ((F a.plan).tokens.in_place Request xa) ((F a.plan).tokens.in_place Answer xa) v
                  ((so.follows.stands a.plan p is_p).fit xa) lies_q).0 in
                  let (a0, k0, at0, ask0, n0, t0) = so.follows.source (place a.plan xa) (segment_roles w fit ported (place a.plan xa) a.end seg).0 up_x in
                  (a0, k0, at0, ask0, suc n0, subst (λ (y : Place). Trail w (suc n0) (origin w a0) y) (sym same) (place a.plan xa, a.end, t0, seg, linked, asks_b))
          by_place (inr not_a) (inr not_b) = so.follows.source z (k, at, asking) (sym (open_else z not_a not_b) ∙ up)

      states : SameStates F G
      states m i = by_plan (told_number m a.plan) (told_number m b.plan)
        where
          by_plan : Told (m ≡ a.plan) → Told (m ≡ b.plan) → (G m).tokens.state i ≡ (F m).tokens.state i
          by_plan (inl same) other =
              ap (λ (k : ℕ). (G k).tokens.state i) same
              ∙ (ap (λ (t : Stand). t.tokens.state i) at_a ∙ (token_state p a.end way None (F a.plan).tokens i ∙ ap (λ (k : ℕ). (F k).tokens.state i) (sym same)))
          by_plan (inr other) (inl same) =
              ap (λ (k : ℕ). (G k).tokens.state i) same
              ∙ (ap (λ (t : Stand). t.tokens.state i) at_b ∙ (token_state q b.end way (Some v) (F b.plan).tokens i ∙ ap (λ (k : ℕ). (F k).tokens.state i) (sym same)))
          by_plan (inr other) (inr also) = ap (λ (t : Stand). t.tokens.state i) (others m other also)

      goes : Goes w r G o past s
      goes =
          record {
            follows = follows_across w r fit ported whole F G a b (place a.plan xa) (place b.plan ya) way v p q cross o past s so.follows stands_then open_else source moved;
            reached = each_plan (λ (z : Plan) (t : Stand). Reached z t.opens t.past t.tokens) reached_a coming.1 so.reached;
            turned = each_plan (λ (z : Plan) (t : Stand). IsTurned z t.past) out.1 turned_b so.turned;
            outer = so.outer;
            states = λ i f t at. so.states i f t at ∙ sym (states t.plan t.part);
          }

      there_now : lying G way (place b.plan ya) ≡ Some v
      there_now = lying_there w r fit ported whole F G a b (place a.plan xa) (place b.plan ya) way v p q cross o past s so.follows

  -- the plan in which a joint is, and how its ends are placed
  placed_ends : (b : Place) (e : End) → Segment w b e
      → (p : Plan) × (slice_get w.plans b.plan ≡ Some p) × (places_of p b.end ≡ Some b.end) × (places_of p e ≡ Some b.end)
  placed_ends b e (p, is, has) = (
    p,
    is,
    stands_there p (joint b.end e) b.end (fit.right b.plan p is) has (asking_stands (joint b.end e)),
    stands_there p (joint b.end e) e (fit.right b.plan p is) has (serving_stands (joint b.end e)),
  )

  -- each place of a trail to a joint asks in a joint
  pub on_the_way : (n : ℕ) (z d : Place) (f : End) → Trail w n z d → Segment w d f → (g : End) × Segment w z g
  on_the_way zero z d f t seg = (f, subst (λ (x : Place). Segment w x f) (sym t) seg)
  on_the_way (suc n) z d f t seg = let (g, y, first, linked, asks, rest) = trail_first w fit ported n z d t in (g, first)

  -- a token goes by a segment and its link
  goes_over : (F : Family) (o : Open) (past : List Pass) (s : Tokens) → Goes w r F o past s → (x z : Place) (e g : End) (v : ℕ) → Segment w x e → Linked w (place x.plan e) z
      → Segment w z g → lying F Request x ≡ Some v → Led w r F o past s Request z v
  goes_over F o past s so x z e g v seg linked next lies =
      let (p, is, named, named_e) = placed_ends x e seg in
      let (q, is_q, named_z, named_g) = placed_ends z g next in
      let (c, at, role) = (segment_roles w fit ported x e seg).1 in
      cross_goes F o past s so (place x.plan e) z p q c Request x.end z.end v linked is is_q (sym (contact_place w (place x.plan e) p is) ∙ at) (ap way_taken role)
      named_e named_z lies

  goes_back : (F : Family) (o : Open) (past : List Pass) (s : Tokens) → Goes w r F o past s → (b x : Place) (e g : End) (v : ℕ) → Segment w b e → Linked w (place b.plan e) x
      → Segment w x g → lying F Answer x ≡ Some v → Led w r F o past s Answer b v
  goes_back F o past s so b x e g v seg linked next lies =
      let (q, is_q, named_b, named_e) = placed_ends b e seg in
      let (p, is, named_x, named_g) = placed_ends x g next in
      let (c, at, role) = (segment_roles w fit ported x g next).0 in
      cross_goes F o past s so x (place b.plan e) p q c Answer x.end b.end v (linked_back w (place b.plan e) x linked) is is_q
      (sym (contact_place w x p is) ∙ at) (ap way_taken role) named_x named_e lies

  -- and so on, to the last joint or to the first one
  pub goes_on : (m : ℕ) (F : Family) (o : Open) (past : List Pass) (s : Tokens) → Goes w r F o past s → (x d : Place) (f : End) (v : ℕ) → Trail w m x d → Segment w d f
      → lying F Request x ≡ Some v → Led w r F o past s Request d v
  goes_on zero F o past s so x d f v t seg lies = (F, so, ap (lying F Request) (sym t) ∙ lies, λ k i. refl)
  goes_on (suc m) F o past s so x d f v t seg lies =
      let (e, z, first, linked, asks, rest) = trail_first w fit ported m x d t in
      let (g, next) = on_the_way m z d f rest seg in
      let (G, goes, now, same) = goes_over F o past s so x z e g v first linked next lies in
      let (H, going, there, also) = goes_on m G o past s goes z d f v rest seg now in
      (H, going, there, λ k i. also k i ∙ same k i)

  pub goes_home : (n : ℕ) (F : Family) (o : Open) (past : List Pass) (s : Tokens) → Goes w r F o past s → (a x : Place) (g : End) (v : ℕ) → Trail w n a x → Segment w x g
      → lying F Answer x ≡ Some v → Led w r F o past s Answer a v
  goes_home zero F o past s so a x g v t seg lies = (F, so, ap (lying F Answer) t ∙ lies, λ k i. refl)
  goes_home (suc n) F o past s so a x g v (b, e, t, first, linked, asks) seg lies =
      let (G, goes, now, same) = goes_back F o past s so b x e g v first linked seg lies in
      let (H, going, there, also) = goes_home n G o past s goes a b e v t first now in
      (H, going, there, λ k i. also k i ∙ same k i)
