-- A token crosses a link: an output of one plan is an input of another, and the whole stands as before.
use Rattle.std.specs.Prelude.{ℕ, true, List, Some, None, slice_get}
use Rattle.std.proofs.Common.{◌≡◌, inl, inr, sym, ◌∙◌, ap, subst}
use Rattle.gos_types.specs.Events.{Direction}
use Rattle.gos_types.proofs.ListLemmas.{some_is_not_none}
use Rattle.gos_plan.specs.Kinds.{Part, Contact, turned_contact}
use Rattle.gos_plan.specs.Plans.{End, PartEnd, Plan, contact_at}
use Rattle.gos_plan.specs.Tokens.{Tokens, IsPortEnd, places_of, with_token}
use Rattle.gos_plan.specs.Orderly.{Open}
use Rattle.gos_plan.specs.Joining.{Place, Wiring, Linked, origin, IsJoining}
use Rattle.gos_plan.proofs.JointLemmas.{IsIn}
use Rattle.gos_realises.specs.realises.Regular.{Pass, is_open, is_request}
use Rattle.gos_realises.specs.realises.Links.{contact_of, LinksFit}
use Rattle.gos_joining.specs.webs.Webs.{joint}
use Rattle.gos_plan.proofs.DecidedLemmas.{Told, told_way}
use Rattle.gos_plan.proofs.WiringLemmas.{linked_back, place_is}
use Rattle.gos_realises.proofs.joined.ReachLemmas.{told_number, told_place}
use Rattle.gos_supplies.proofs.turns.StandLemmas.{placed_here, placed_apart, Passed, passed_here, passed_apart, Stands}
use Rattle.gos_supplies.proofs.turns.TrailLemmas.{LinksArePorts, IsUnlinked, AsksAt, Trail, link_one, link_ports, link_apart, link_contacts}
use Rattle.gos_supplies.proofs.turns.FollowLemmas.{Stand, Family, open_at, lying, shown, OnTrail, HasSource, Follows, is_free, port_there, joint_trail, seat_contact}

-- a token is taken at one place and put at another, which a link joins; x and y are the asking ends of the joints there
pub record Cross (w : Wiring) (F G : Family) (a b x y : Place) (way : Direction) (v : ℕ) (p q : Plan) : Type 0 where
  pub linked : Linked w a b
  pub others : (m : ℕ) → (m ≡ a.plan → ⊥) → (m ≡ b.plan → ⊥) → G m ≡ F m
  pub tokens_a : (G a.plan).tokens.in_place ≡ (with_token p a.end way None (F a.plan).tokens).in_place
  pub tokens_b : (G b.plan).tokens.in_place ≡ (with_token q b.end way (Some v) (F b.plan).tokens).in_place
  pub passed_a : Passed (is_open (F a.plan).past) (is_open (G a.plan).past) a.end way
  pub passed_b : Passed (is_open (F b.plan).past) (is_open (G b.plan).past) b.end way
  pub plan_x : x.plan ≡ a.plan
  pub plan_y : y.plan ≡ b.plan
  pub named_a : places_of p a.end ≡ Some x.end
  pub named_b : places_of q b.end ≡ Some y.end
  pub lies : lying F way x ≡ Some v
  pub empty : lying F way y ≡ None

module _ (w : Wiring) (r : Plan) (fit : LinksFit w) (ported : LinksArePorts w) (whole : IsJoining w r)
    (F G : Family) (a b x y : Place) (way : Direction) (v : ℕ) (p q : Plan) (cross : Cross w F G a b x y way v p q)
    (o : Open) (past : List Pass) (s : Tokens) (so : Follows w r F o past s) where
  apart : a.plan ≡ b.plan → ⊥
  apart = link_apart w fit ported a b cross.linked

  port_a : IsPortEnd a.end
  port_a = (link_ports w fit ported a b cross.linked).0

  port_b : IsPortEnd b.end
  port_b = (link_ports w fit ported a b cross.linked).1

  shown_a : shown G a ≡ is_request way
  shown_a = passed_here (is_open (F a.plan).past) (is_open (G a.plan).past) a.end way cross.passed_a port_a

  shown_b : shown G b ≡ is_request way
  shown_b = passed_here (is_open (F b.plan).past) (is_open (G b.plan).past) b.end way cross.passed_b port_b

  shown_else : (z : Place) → IsPortEnd z.end → (z ≡ a → ⊥) → (z ≡ b → ⊥) → shown G z ≡ shown F z
  shown_else z port not_a not_b = by_plan (told_number z.plan a.plan) (told_number z.plan b.plan)
    where
      by_plan : Told (z.plan ≡ a.plan) → Told (z.plan ≡ b.plan) → shown G z ≡ shown F z
      by_plan (inl same) other =
          ap (λ (m : ℕ). is_open (G m).past z.end) same
          ∙ (passed_apart (is_open (F a.plan).past) (is_open (G a.plan).past) a.end z.end way cross.passed_a port (λ ends. not_a (place_is z a same (sym ends)))
          ∙ ap (λ (m : ℕ). is_open (F m).past z.end) (sym same))
      by_plan (inr other) (inl same) =
          ap (λ (m : ℕ). is_open (G m).past z.end) same
          ∙ (passed_apart (is_open (F b.plan).past) (is_open (G b.plan).past) b.end z.end way cross.passed_b port (λ ends. not_b (place_is z b same (sym ends)))
          ∙ ap (λ (m : ℕ). is_open (F m).past z.end) (sym same))
      by_plan (inr other) (inr also) = ap (λ (t : Stand). is_open t.past z.end) (cross.others z.plan other also)

  agree_then : (c d : Place) → Linked w c d → shown G c ≡ shown G d
  agree_then c d linked = by_place (told_place c a) (told_place c b)
    where
      by_place : Told (c ≡ a) → Told (c ≡ b) → shown G c ≡ shown G d
      by_place (inl same) other =
          let is : b ≡ d = link_one w fit ported a b d cross.linked (subst (λ (z : Place). Linked w z d) same linked) in
          ap (shown G) same ∙ (shown_a ∙ (sym shown_b ∙ ap (shown G) is))
      by_place (inr other) (inl same) =
          let is : a ≡ d = link_one w fit ported b a d (linked_back w a b cross.linked) (subst (λ (z : Place). Linked w z d) same linked) in
          ap (shown G) same ∙ (shown_b ∙ (sym shown_a ∙ ap (shown G) is))
      by_place (inr not_a) (inr not_b) =
          let ports = link_ports w fit ported c d linked in
          let d_not_a : d ≡ a → ⊥ = λ same.
          not_b (link_one w fit ported a c b (subst (λ (z : Place). Linked w z c) same (linked_back w c d linked)) cross.linked) in
          let d_not_b : d ≡ b → ⊥ = λ same.
          not_a (link_one w fit ported b c a (subst (λ (z : Place). Linked w z c) same (linked_back w c d linked)) (linked_back w a b cross.linked)) in
          shown_else c ports.0 not_a not_b ∙ (so.agree c d linked ∙ sym (shown_else d ports.1 d_not_a d_not_b))

  lying_else : (u : Direction) (z : Place) → (u ≡ way → z ≡ x → ⊥) → (u ≡ way → z ≡ y → ⊥) → lying G u z ≡ lying F u z
  lying_else u z not_x not_y = by_plan (told_number z.plan a.plan) (told_number z.plan b.plan)
    where
      by_plan : Told (z.plan ≡ a.plan) → Told (z.plan ≡ b.plan) → lying G u z ≡ lying F u z
      by_plan (inl same) other =
          ap (λ (m : ℕ). (G m).tokens.in_place u z.end) same
          ∙ ((λ i. cross.tokens_a i u z.end)
          ∙ (placed_apart p a.end z.end way u None (F a.plan).tokens
          (λ ways named. (let ends : z.end ≡ x.end = cc (named, cross.named_a) in not_x ways (place_is z x (same ∙ sym cross.plan_x) ends)))
          ∙ ap (λ (m : ℕ). (F m).tokens.in_place u z.end) (sym same)))
      by_plan (inr other) (inl same) =
          ap (λ (m : ℕ). (G m).tokens.in_place u z.end) same
          ∙ ((λ i. cross.tokens_b i u z.end)
          ∙ (placed_apart q b.end z.end way u (Some v) (F b.plan).tokens
          (λ ways named. (let ends : z.end ≡ y.end = cc (named, cross.named_b) in not_y ways (place_is z y (same ∙ sym cross.plan_y) ends)))
          ∙ ap (λ (m : ℕ). (F m).tokens.in_place u z.end) (sym same)))
      by_plan (inr other) (inr also) = ap (λ (t : Stand). t.tokens.in_place u z.end) (cross.others z.plan other also)

  pub lying_there : lying G way y ≡ Some v
  lying_there =
      ap (λ (m : ℕ). (G m).tokens.in_place way y.end) cross.plan_y
      ∙ ((λ i. cross.tokens_b i way y.end) ∙ placed_here q b.end y.end way (Some v) (F b.plan).tokens cross.named_b)

  pub follows_across : ((k : ℕ) (z : Plan) → slice_get w.plans k ≡ Some z → Stands z (G k).opens (is_open (G k).past) (G k).tokens)
      → ((z : Place) → (z ≡ a → ⊥) → (z ≡ b → ⊥) → open_at G z ≡ open_at F z)
      → ((z : Place) → AsksAt w z → open_at G z ≡ true → HasSource w r z)
      → ((z : Place) (n : ℕ) → IsUnlinked w z → Trail w n z x → (m : ℕ) × Trail w m z y) → Follows w r G o past s
  follows_across stands opens source moved =
      record {
        stands = stands;
        agree = agree_then;
        opens = λ e c there role. so.opens e c there role
            ∙ sym (opens (origin w e) (λ same. at_a e c there same) (λ same. at_b e c there same));
        lies = λ c d joined u z held. lies_then (so.lies c d joined u z held) (is_free_at c d joined);
        source = source;
        lost = λ i g f is none. so.lost i g f is none
            ∙ sym (opens (origin w (PartEnd i g)) (λ same. not_there i g f is none a same contact_a)
            (λ same. not_there i g f is none b same contact_b));
        ports = λ e c port there. so.ports e c port there
            ∙ sym (shown_else (origin w e) (port_there w r fit ported whole e c there port) (λ same. at_a e c there same) (λ same. at_b e c there same));
        dead = λ z port loose. shown_else z port (λ same. loose.0 b (subst (λ (u : Place). Linked w u b) (sym same) cross.linked))
            (λ same. loose.0 a (subst (λ (u : Place). Linked w u a) (sym same) (linked_back w a b cross.linked))) ∙ so.dead z port loose;
      }
    where
      contact_a : (c : Contact) × (contact_of w a ≡ Some c)
      contact_a = let (c, one, other) = link_contacts w fit ported a b cross.linked in (c, one)

      contact_b : (c : Contact) × (contact_of w b ≡ Some c)
      contact_b = let (c, one, other) = link_contacts w fit ported a b cross.linked in (turned_contact c, other)

      not_there : (i g : ℕ) (f : Part) → slice_get r.parts i ≡ Some f → contact_at r (PartEnd i g) ≡ None → (z : Place) → origin w (PartEnd i g) ≡ z
          → (c : Contact) × (contact_of w z ≡ Some c) → ⊥
      not_there i g f is none z same (c, there) =
          let never : None ≡ Some c = sym none ∙ (sym (seat_contact w r fit ported whole i g f is) ∙ (ap (contact_of w) same ∙ there)) in cc never

      at_a : (e : End) (c : Contact) → contact_at r e ≡ Some c → origin w e ≡ a → ⊥
      at_a e c there same = is_free w r fit ported whole e c there b (subst (λ (z : Place). Linked w z b) (sym same) cross.linked)

      at_b : (e : End) (c : Contact) → contact_at r e ≡ Some c → origin w e ≡ b → ⊥
      at_b e c there same = is_free w r fit ported whole e c there a (subst (λ (z : Place). Linked w z a) (sym same) (linked_back w a b cross.linked))

      is_free_at : (c d : End) → IsIn (joint c d) r.joints → IsUnlinked w (origin w c)
      is_free_at c d joined =
          let ((k, there, asks), served, trail) = joint_trail w r fit ported whole c d joined in is_free w r fit ported whole c k there

      lies_then : {c : Place} {u : Direction} {z : ℕ} → OnTrail w F c u z → IsUnlinked w c → OnTrail w G c u z
      lies_then {c} {u} {z} (n, d, t, is) free = by_way (told_way u way) (told_place d x) (told_place d y)
        where
          stays : (u ≡ way → d ≡ x → ⊥) → (u ≡ way → d ≡ y → ⊥) → OnTrail w G c u z
          stays not_x not_y = (n, d, t, lying_else u d not_x not_y ∙ is)

          by_way : Told (u ≡ way) → Told (d ≡ x) → Told (d ≡ y) → OnTrail w G c u z
          by_way (inl ways) (inl same) other =
              let (m, led) = moved c n free (subst (Trail w n c) same t) in
              let held : Some v ≡ Some z = sym cross.lies ∙ (sym (λ i. lying F (ways i) (same i)) ∙ is) in
              (m, y, led, ap (λ (k : Direction). lying G k y) ways ∙ (lying_there ∙ held))
          by_way (inl ways) (inr not_x) (inl same) =
              absurd (some_is_not_none z (lying F way y) (sym (λ i. lying F (ways i) (same i)) ∙ is) cross.empty)
          by_way (inl ways) (inr not_x) (inr not_y) = stays (λ k same. not_x same) (λ k same. not_y same)
          by_way (inr other) first second = stays (λ k same. other k) (λ k same. other k)
