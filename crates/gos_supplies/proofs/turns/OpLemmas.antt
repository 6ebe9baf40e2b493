-- What the whole and one of its plans take or put, at an end of the whole: the whole still stands as its plans do.
--
-- And what the plan may put there the whole may.
use Rattle.std.specs.Prelude.{ℕ, zero, suc, ◌+◌, ◌-◌, ◌≤◌, ◌<◌, Bool, true, false, List, Option, Some, None, slice_get, nat_lt}
use Rattle.std.proofs.Common.{◌≡◌, ◌⊎◌, inl, inr, refl, sym, ◌∙◌, ap, subst, arith}
use Rattle.std.proofs.lemmas.Bool.Decides.{nat_tests}
use Rattle.gos_types.specs.declared.shakes.Role.{Role}
use Rattle.gos_types.specs.declared.shakes.Role.TheVariants.{Serve, Ask}
use Rattle.gos_types.specs.Events.{Direction, Request, Answer}
use Rattle.gos_types.proofs.ListLemmas.{some_is_not_none}
use Rattle.gos_plan.specs.Kinds.{Part, Contact}
use Rattle.gos_plan.specs.Plans.{End, PartEnd, Joint, Plan, contact_at, IsRight}
use Rattle.gos_plan.specs.Tokens.{Tokens, IsPortEnd, places_of, token_at, held_at, with_held, with_token, way_taken, way_put}
use Rattle.gos_plan.specs.Orderly.{Open, named_by, handshake_at, with_open, after_taken, after_put, ComesWell}
use Rattle.gos_plan.specs.Joining.{Place, place, Wiring, Linked, origin, IsJoining}
use Rattle.gos_plan.proofs.JointLemmas.{IsIn, stands_there, found, joined, asking_stands, serving_stands}
use Rattle.gos_plan.proofs.HeldLemmas as holding
use Rattle.gos_realises.specs.realises.Regular.{Pass, is_open}
use Rattle.gos_realises.specs.realises.Links.{contact_of, LinksFit}
use Rattle.gos_joining.specs.webs.Webs.{joint}
use Rattle.gos_plan.proofs.DecidedLemmas.{Told, told_way}
use Rattle.gos_plan.proofs.WiringLemmas.{linked_back, place_is}
use Rattle.gos_plan.proofs.ProjectionLemmas.{port_by_itself}
use Rattle.gos_realises.proofs.joined.ReachLemmas.{told_number, told_end, told_place}
use Rattle.gos_supplies.proofs.turns.StandLemmas.{asks_own, serves_in, placed_here, placed_apart, lies_in, opened_here, opened_apart, Passed, passed_here, passed_apart, Stands, stands_same, took_answer, took_request, put_request, put_answer}
use Rattle.gos_supplies.proofs.turns.TrailLemmas.{LinksArePorts, IsUnlinked, AsksAt, Segment, Trail, contact_place, link_ports, segment_roles, segment_one, trail_rest, trail_first, trail_start}
use Rattle.gos_supplies.proofs.turns.FollowLemmas.{Stand, Family, open_at, lying, shown, OnTrail, HasSource, Follows, at_place, is_free, is_alone, port_there, joint_trail, trail_joint, chain, seat_contact, one_seat}

-- one plan takes or puts a token where an end of the whole stands, and what passes is seen by both
pub record Op (w : Wiring) (r : Plan) (F G : Family) (past after : List Pass) (e : End) (c : Contact) (way : Direction) (h : Option ℕ) (p : Plan) : Type 0 where
  pub there : contact_at r e ≡ Some c
  pub is : slice_get w.plans (origin w e).plan ≡ Some p
  pub others : (m : ℕ) → (m ≡ (origin w e).plan → ⊥) → G m ≡ F m
  pub tokens : (G (origin w e).plan).tokens.in_place ≡ (with_token p (origin w e).end way h (F (origin w e).plan).tokens).in_place
  pub own : Passed (is_open (F (origin w e).plan).past) (is_open (G (origin w e).plan).past) (origin w e).end way
  pub outer : Passed (is_open past) (is_open after) e way

module _ (w : Wiring) (r : Plan) (fit : LinksFit w) (ported : LinksArePorts w) (whole : IsJoining w r)
    (F G : Family) (past after : List Pass) (e : End) (c : Contact) (way : Direction) (h : Option ℕ) (p : Plan)
    (op : Op w r F G past after e c way h p) (o : Open) (s : Tokens) (so : Follows w r F o past s) where
  abbrev k : ℕ
  k = (origin w e).plan

  abbrev d : End
  d = (origin w e).end

  right : IsRight p
  right = fit.right k p op.is

  at : contact_at p d ≡ Some c
  at = sym (contact_place w (origin w e) p op.is) ∙ at_place w r fit ported whole e c op.there

  free : IsUnlinked w (origin w e)
  free = is_free w r fit ported whole e c op.there

  shown_apart : (a : Place) → IsPortEnd a.end → (a ≡ origin w e → ⊥) → shown G a ≡ shown F a
  shown_apart a port apart = by_plan (told_number a.plan k)
    where
      by_plan : Told (a.plan ≡ k) → shown G a ≡ shown F a
      by_plan (inl same) =
          ap (λ (m : ℕ). is_open (G m).past a.end) same
          ∙ (passed_apart (is_open (F k).past) (is_open (G k).past) d a.end way op.own port (λ ends. apart (place_is a (origin w e) same (sym ends)))
          ∙ ap (λ (m : ℕ). is_open (F m).past a.end) (sym same))
      by_plan (inr other) = ap (λ (x : Stand). is_open x.past a.end) (op.others a.plan other)

  agree_then : (a b : Place) → Linked w a b → shown G a ≡ shown G b
  agree_then a b linked =
      let both = link_ports w fit ported a b linked in
      shown_apart a both.0 (λ same. free b (subst (λ (x : Place). Linked w x b) same linked))
      ∙ (so.agree a b linked ∙ sym (shown_apart b both.1 (λ same. free a (subst (λ (x : Place). Linked w x a) same (linked_back w a b linked)))))

  ports_then : (x : End) (b : Contact) → IsPortEnd x → contact_at r x ≡ Some b → is_open after x ≡ shown G (origin w x)
  ports_then x b port there = by_end (told_end e x)
    where
      by_end : Told (e ≡ x) → is_open after x ≡ shown G (origin w x)
      by_end (inl same) =
          let port_e : IsPortEnd e = subst IsPortEnd (sym same) port in
          subst (λ (y : End). is_open after y ≡ shown G (origin w y)) same
          (passed_here (is_open past) (is_open after) e way op.outer port_e
          ∙ sym (passed_here (is_open (F k).past) (is_open (G k).past) d way op.own (port_there w r fit ported whole e c op.there port_e)))
      by_end (inr apart) =
          passed_apart (is_open past) (is_open after) e x way op.outer port apart
          ∙ (so.ports x b port there
          ∙ sym (shown_apart (origin w x) (port_there w r fit ported whole x b there port) (λ same. apart (is_alone w r fit ported whole e x c b op.there there (sym same)))))

  lying_apart : (x : Place) (u : Direction) → (u ≡ way → x.plan ≡ k → places_of p d ≡ Some x.end → ⊥) → lying G u x ≡ lying F u x
  lying_apart x u apart = by_plan (told_number x.plan k)
    where
      by_plan : Told (x.plan ≡ k) → lying G u x ≡ lying F u x
      by_plan (inl same) =
          ap (λ (m : ℕ). (G m).tokens.in_place u x.end) same
          ∙ ((λ i. op.tokens i u x.end)
          ∙ (placed_apart p d x.end way u h (F k).tokens (λ ways named. apart ways same named) ∙ ap (λ (m : ℕ). (F m).tokens.in_place u x.end) (sym same)))
      by_plan (inr other) = ap (λ (y : Stand). y.tokens.in_place u x.end) (op.others x.plan other)

  lying_here : (x : Place) → x.plan ≡ k → places_of p d ≡ Some x.end → lying G way x ≡ h
  lying_here x same named =
      ap (λ (m : ℕ). (G m).tokens.in_place way x.end) same ∙ ((λ i. op.tokens i way x.end) ∙ placed_here p d x.end way h (F k).tokens named)

  -- tokens lie on trails where the whole's place and the plan's are the ends of one
  lies_then : (a : End) (x : Place) (b : Contact) (n : ℕ) → contact_at r a ≡ Some b → places_of r e ≡ Some a → x.plan ≡ k → places_of p d ≡ Some x.end
      → Trail w n (origin w a) x → (a' b' : End) → IsIn (joint a' b') r.joints → (u : Direction) (v : ℕ) → (with_token r e way h s).in_place u a' ≡ Some v
      → OnTrail w G (origin w a') u v
  lies_then a x b n there named plans also t a' b' joined u v held = by_told (told_way u way) (told_end a' a)
    where
      other : (u ≡ way → a' ≡ a → ⊥) → OnTrail w G (origin w a') u v
      other clash =
          let before : s.in_place u a' ≡ Some v =
          sym (placed_apart r e a' way u h s (λ ways is. (let same : a' ≡ a = cc (is, named) in clash ways same))) ∙ held in
          let (m, y, t', lies) = so.lies a' b' joined u v before in
          let ((b0, there', asks), served, trail) = joint_trail w r fit ported whole a' b' joined in
          let apart : u ≡ way → y.plan ≡ k → places_of p d ≡ Some y.end → ⊥ = λ ways plan is.
          (let ends : y.end ≡ x.end = cc (is, also) in
          let same : y ≡ x = place_is y x (plan ∙ sym plans) ends in
          let starts = trail_start w fit ported m n (origin w a') (origin w a) x (is_free w r fit ported whole a' b0 there') (is_free w r fit ported whole a b there)
          (subst (Trail w m (origin w a')) same t') t in
          clash ways (is_alone w r fit ported whole a' a b0 b there' there starts))
          in
          (m, y, t', lying_apart y u apart ∙ lies)

      by_told : Told (u ≡ way) → Told (a' ≡ a) → OnTrail w G (origin w a') u v
      by_told (inl ways) (inl same) = (
        n,
        x,
        subst (λ (y : End). Trail w n (origin w y) x) (sym same) t,
        ap (λ (y : Direction). lying G y x) ways
            ∙ (lying_here x plans also ∙ (sym (placed_here r e a way h s named) ∙ (sym (λ i. (with_token r e way h s).in_place (ways i) (same i)) ∙ held))),
      )
      by_told (inl ways) (inr apart) = other (λ u' same. apart same)
      by_told (inr apart) same = other (λ ways is. apart ways)

  stands_then : (q : Open) → (G k).opens ≡ q → Stands p q (is_open (G k).past) (with_token p d way h (F k).tokens)
      → (m : ℕ) (b : Plan) → slice_get w.plans m ≡ Some b → Stands b (G m).opens (is_open (G m).past) (G m).tokens
  stands_then q opens new m b is = by_plan (told_number m k)
    where
      by_plan : Told (m ≡ k) → Stands b (G m).opens (is_open (G m).past) (G m).tokens
      by_plan (inl same) =
          let plans : b ≡ p = cc (is, op.is, same) in
          subst (λ (x : Plan). Stands x (G m).opens (is_open (G m).past) (G m).tokens) (sym plans)
          (subst (λ (x : ℕ). Stands p (G x).opens (is_open (G x).past) (G x).tokens) (sym same)
          (subst (λ (x : Open). Stands p x (is_open (G k).past) (G k).tokens) (sym opens)
          (stands_same p q (is_open (G k).past) (with_token p d way h (F k).tokens) (G k).tokens op.tokens new)))
      by_plan (inr other) = subst (λ (x : Stand). Stands b x.opens (is_open x.past) x.tokens) (sym (op.others m other)) (so.stands m b is)

  -- where the end asks its own handshake is opened or closed, and where it serves none is
  open_apart : (b : Bool) → c.role ≡ Ask → (G k).opens ≡ with_open (handshake_at p d) b (F k).opens → (x : Place) → (x ≡ origin w e → ⊥) → open_at G x ≡ open_at F x
  open_apart b asks opens x apart = by_plan (told_number x.plan k)
    where
      by_plan : Told (x.plan ≡ k) → open_at G x ≡ open_at F x
      by_plan (inl same) =
          ap (λ (m : ℕ). (G m).opens x.end) same
          ∙ ((λ i. opens i x.end)
          ∙ (opened_apart (handshake_at p d) x.end b (F k).opens (λ is. apart (place_is x (origin w e) same (is ∙ port_by_itself p d c right at asks)))
          ∙ ap (λ (m : ℕ). (F m).opens x.end) (sym same)))
      by_plan (inr other) = ap (λ (y : Stand). y.opens x.end) (op.others x.plan other)

  open_here : (b : Bool) → c.role ≡ Ask → (G k).opens ≡ with_open (handshake_at p d) b (F k).opens → open_at G (origin w e) ≡ b
  open_here b asks opens = (λ i. opens i d) ∙ opened_here (handshake_at p d) d b (F k).opens (port_by_itself p d c right at asks)

  opens_asking : (b : Bool) → c.role ≡ Ask → (G k).opens ≡ with_open (handshake_at p d) b (F k).opens
      → (x : End) (y : Contact) → contact_at r x ≡ Some y → y.role ≡ Ask → with_open (handshake_at r e) b o x ≡ open_at G (origin w x)
  opens_asking b asks opens x y there role = by_end (told_end e x)
    where
      own : handshake_at r e ≡ e
      own = port_by_itself r e c whole.right op.there asks

      by_end : Told (e ≡ x) → with_open (handshake_at r e) b o x ≡ open_at G (origin w x)
      by_end (inl same) =
          subst (λ (z : End). with_open (handshake_at r e) b o z ≡ open_at G (origin w z)) same
          (opened_here (handshake_at r e) e b o own ∙ sym (open_here b asks opens))
      by_end (inr apart) =
          opened_apart (handshake_at r e) x b o (λ same. apart (sym (same ∙ own)))
          ∙ (so.opens x y there role ∙ sym (open_apart b asks opens (origin w x) (λ same. apart (is_alone w r fit ported whole e x c y op.there there (sym same)))))

  open_same : (G k).opens ≡ (F k).opens → (x : Place) → open_at G x ≡ open_at F x
  open_same opens x = by_plan (told_number x.plan k)
    where
      by_plan : Told (x.plan ≡ k) → open_at G x ≡ open_at F x
      by_plan (inl same) = ap (λ (m : ℕ). (G m).opens x.end) same ∙ ((λ i. opens i x.end) ∙ ap (λ (m : ℕ). (F m).opens x.end) (sym same))
      by_plan (inr other) = ap (λ (y : Stand). y.opens x.end) (op.others x.plan other)

  lost_apart : (i g : ℕ) (f : Part) → slice_get r.parts i ≡ Some f → contact_at r (PartEnd i g) ≡ None → origin w (PartEnd i g) ≡ origin w e → ⊥
  lost_apart i g f is none same =
      let never : None ≡ Some c =
      sym none ∙ (sym (seat_contact w r fit ported whole i g f is) ∙ (ap (contact_of w) same ∙ at_place w r fit ported whole e c op.there)) in cc never

  lost_asking : (b : Bool) → c.role ≡ Ask → (G k).opens ≡ with_open (handshake_at p d) b (F k).opens → (i g : ℕ) (f : Part) → slice_get r.parts i ≡ Some f
      → contact_at r (PartEnd i g) ≡ None → with_open (handshake_at r e) b o (PartEnd i g) ≡ open_at G (origin w (PartEnd i g))
  lost_asking b asks opens i g f is none =
      opened_apart (handshake_at r e) (PartEnd i g) b o
      (λ same. (let never : None ≡ Some c = sym none ∙ (ap (contact_at r) (same ∙ port_by_itself r e c whole.right op.there asks) ∙ op.there) in cc never))
      ∙ (so.lost i g f is none ∙ sym (open_apart b asks opens (origin w (PartEnd i g)) (lost_apart i g f is none)))

  abbrev LiesThen : Type 0
  LiesThen = (a b : End) → IsIn (joint a b) r.joints → (u : Direction) (v : ℕ) → (with_token r e way h s).in_place u a ≡ Some v → OnTrail w G (origin w a) u v

  abbrev SourceThen : Type 0
  SourceThen = (x : Place) → AsksAt w x → open_at G x ≡ true → HasSource w r x

  then_asking : (b : Bool) → c.role ≡ Ask → (G k).opens ≡ with_open (handshake_at p d) b (F k).opens
      → Stands p (with_open (handshake_at p d) b (F k).opens) (is_open (G k).past) (with_token p d way h (F k).tokens) → LiesThen → SourceThen
      → Follows w r G (with_open (handshake_at r e) b o) after (with_token r e way h s)
  then_asking b asks opens new lies source =
      record {
        stands = stands_then (with_open (handshake_at p d) b (F k).opens) opens new;
        agree = agree_then;
        opens = opens_asking b asks opens;
        lies = lies;
        source = source;
        lost = lost_asking b asks opens;
        ports = ports_then;
        dead = λ a port loose. shown_apart a port (λ same. loose.1 e c op.there (sym same)) ∙ so.dead a port loose;
      }

  then_serving : (G k).opens ≡ (F k).opens → Stands p (F k).opens (is_open (G k).past) (with_token p d way h (F k).tokens) → LiesThen
      → Follows w r G o after (with_token r e way h s)
  then_serving opens new lies =
      record {
        stands = stands_then (F k).opens opens new;
        agree = agree_then;
        opens = λ x y there role. so.opens x y there role ∙ sym (open_same opens (origin w x));
        lies = lies;
        source = λ x asks up. so.source x asks (sym (open_same opens x) ∙ up);
        lost = λ i g f is none. so.lost i g f is none ∙ sym (open_same opens (origin w (PartEnd i g)));
        ports = ports_then;
        dead = λ a port loose. shown_apart a port (λ same. loose.1 e c op.there (sym same)) ∙ so.dead a port loose;
      }

  -- no joint of the whole is named by the end where it has no place
  lies_nowhere : c.role ≡ Ask → places_of r e ≡ None → LiesThen
  lies_nowhere asks none a b joined u v held =
      let before : s.in_place u a ≡ Some v = subst (λ (f : Option End). (with_held way f h s).in_place u a ≡ Some v) none held in
      let (m, y, t, lies) = so.lies a b joined u v before in
      let ((x, there, asks_a), served, trail) = joint_trail w r fit ported whole a b joined in
      let apart : u ≡ way → y.plan ≡ k → places_of p d ≡ Some y.end → ⊥ = λ ways plan named.
      (let same : y ≡ origin w e = place_is y (origin w e) plan (asks_own p d y.end c right at asks named) in
      let starts = trail_start w fit ported m 0 (origin w a) (origin w e) y (is_free w r fit ported whole a x there) free t (sym same) in
      let ends : a ≡ e = is_alone w r fit ported whole a e x c there op.there starts in
      let placed : places_of r a ≡ Some a = stands_there r (joint a b) a whole.right joined (asking_stands (joint a b)) in
      let never : None ≡ Some a = sym none ∙ (ap (places_of r) (sym ends) ∙ placed) in
      cc never)
      in
      (m, y, t, lying_apart y u apart ∙ lies)

  -- and where it asks and has one
  lies_asking : c.role ≡ Ask → places_of r e ≡ Some e → places_of p d ≡ Some d → LiesThen
  lies_asking asks named named_p = lies_then e (origin w e) c 0 op.there named refl named_p refl

  right_then : IsRight p
  right_then = right

  at_then : contact_at p d ≡ Some c
  at_then = at

module _ (w : Wiring) (r : Plan) (fit : LinksFit w) (ported : LinksArePorts w) (whole : IsJoining w r) where
  -- an answer is taken
  pub follows_took_answer : (F G : Family) (past after : List Pass) (e : End) (c : Contact) (v : ℕ) (p : Plan) (o : Open) (s : Tokens)
      → Op w r F G past after e c Answer None p → Follows w r F o past s → c.role ≡ Ask → token_at r s e Answer ≡ Some v
      → token_at p (F (origin w e).plan).tokens (origin w e).end Answer ≡ Some v
      → (G (origin w e).plan).opens ≡ after_taken p (origin w e).end Answer (F (origin w e).plan).opens
      → Follows w r G (after_taken r e Answer o) after (with_token r e Answer None s)
  follows_took_answer F G past after e c v p o s op so asks lies lies_k opens =
      let right = right_then w r fit ported whole F G past after e c Answer None p op o s so in
      let at = at_then w r fit ported whole F G past after e c Answer None p op o s so in
      let (a, named, held) = lies_in r e Answer v s lies in
      let (b, own, held_k) = lies_in p (origin w e).end Answer v (F (origin w e).plan).tokens lies_k in
      then_asking w r fit ported whole F G past after e c Answer None p op o s so false asks opens
      (took_answer p (origin w e).end c v (F (origin w e).plan).opens (is_open (F (origin w e).plan).past) (is_open (G (origin w e).plan).past)
      (F (origin w e).plan).tokens right at asks lies_k op.own (so.stands (origin w e).plan p op.is))
      (lies_asking w r fit ported whole F G past after e c Answer None p op o s so asks (named ∙ ap Some (asks_own r e a c whole.right op.there asks named))
      (own ∙ ap Some (asks_own p (origin w e).end b c right at asks own)))
      source
    where
      source : (x : Place) → AsksAt w x → open_at G x ≡ true → HasSource w r x
      source x asks_x up = by_place (told_place x (origin w e))
        where
          by_place : Told (x ≡ origin w e) → HasSource w r x
          by_place (inl same) =
              let never : true ≡ false =
              sym up ∙ (ap (open_at G) same ∙ open_here w r fit ported whole F G past after e c Answer None p op o s so false asks opens) in cc never
          by_place (inr apart) = so.source x asks_x (sym (open_apart w r fit ported whole F G past after e c Answer None p op o s so false asks opens x apart) ∙ up)

  -- a request is put: the whole may put it, and it follows
  pub follows_put_request : (F G : Family) (past after : List Pass) (e : End) (c : Contact) (v : ℕ) (p : Plan) (o : Open) (s : Tokens)
      → Op w r F G past after e c Request (Some v) p → Follows w r F o past s → c.role ≡ Ask
      → ComesWell p (origin w e).end Request (F (origin w e).plan).opens (F (origin w e).plan).tokens
      → (G (origin w e).plan).opens ≡ after_put p (origin w e).end Request (F (origin w e).plan).opens
      → ComesWell r e Request o s × Follows w r G (after_put r e Request o) after (with_token r e Request (Some v) s)
  follows_put_request F G past after e c v p o s op so asks well opens =
      let right = right_then w r fit ported whole F G past after e c Request (Some v) p op o s so in
      let at = at_then w r fit ported whole F G past after e c Request (Some v) p op o s so in (
        ap o (port_by_itself r e c whole.right op.there asks)
            ∙ (so.opens e c op.there asks ∙ (ap (F (origin w e).plan).opens (sym (port_by_itself p (origin w e).end c right at asks)) ∙ well)),
        then_asking w r fit ported whole F G past after e c Request (Some v) p op o s so true asks opens
            (put_request p (origin w e).end c v (F (origin w e).plan).opens (is_open (F (origin w e).plan).past) (is_open (G (origin w e).plan).past)
            (F (origin w e).plan).tokens right at asks well op.own (so.stands (origin w e).plan p op.is))
            (by_place right (places_of r e) refl)
            source,
      )
    where
      source : (x : Place) → AsksAt w x → open_at G x ≡ true → HasSource w r x
      source x asks_x up = by_told (told_place x (origin w e))
        where
          by_told : Told (x ≡ origin w e) → HasSource w r x
          by_told (inl same) = (e, c, op.there, asks, 0, sym same)
          by_told (inr apart) =
              so.source x asks_x (sym (open_apart w r fit ported whole F G past after e c Request (Some v) p op o s so true asks opens x apart) ∙ up)

      -- where the whole's end asks in a joint its plan's does
      first_segment : (n : ℕ) (d : Place) (f : End) → Trail w n (origin w e) d → Segment w d f → (g : End) × Segment w (origin w e) g
      first_segment zero d f t seg = (f, subst (λ (x : Place). Segment w x f) (sym t) seg)
      first_segment (suc n) d f t seg = let (g, z, first, linked, asks_z, rest) = trail_first w fit ported n (origin w e) d t in (g, first)

      placed : IsRight p → (j : Joint) → IsIn j r.joints → j.asking ≡ e → places_of p (origin w e).end ≡ Some (origin w e).end
      placed right j joined asking =
          let in_r : IsIn (joint e j.serving) r.joints = subst (λ (x : End). IsIn (joint x j.serving) r.joints) asking joined in
          let (asked, served, (n, d, f, t, seg, is)) = joint_trail w r fit ported whole e j.serving in_r in
          let (g, (q, is_q, has_q)) = first_segment n d f t seg in
          let plans : q ≡ p = cc (is_q, op.is) in
          stands_there p (joint (origin w e).end g) (origin w e).end right (subst (λ (x : Plan). IsIn (joint (origin w e).end g) x.joints) plans has_q)
          (asking_stands (joint (origin w e).end g))

      by_place : IsRight p → (f : Option End) → places_of r e ≡ f → LiesThen w r fit ported whole F G past after e c Request (Some v) p op o s so
      by_place right None none = lies_nowhere w r fit ported whole F G past after e c Request (Some v) p op o s so asks none
      by_place right (Some a) named =
          let own : a ≡ e = asks_own r e a c whole.right op.there asks named in
          let f = found r.joints e a named in
          lies_asking w r fit ported whole F G past after e c Request (Some v) p op o s so asks (named ∙ ap Some own)
          (placed right f.joint f.is_in (f.named ∙ own))

  -- a serving end of the whole in a place of its plan: an end of the whole that asks leads to it
  pub follows_took_request : (F G : Family) (past after : List Pass) (e : End) (c : Contact) (v : ℕ) (p : Plan) (o : Open) (s : Tokens)
      → Op w r F G past after e c Request None p → Follows w r F o past s → c.role ≡ Serve → token_at r s e Request ≡ Some v
      → token_at p (F (origin w e).plan).tokens (origin w e).end Request ≡ Some v
      → (G (origin w e).plan).opens ≡ (F (origin w e).plan).opens
      → Follows w r G o after (with_token r e Request None s)
  follows_took_request F G past after e c v p o s op so serving lies lies_k opens =
      let right = right_then w r fit ported whole F G past after e c Request None p op o s so in
      let at = at_then w r fit ported whole F G past after e c Request None p op o s so in
      let (a, named, held) = lies_in r e Request v s lies in
      let (j, joined, asking, serves) = serves_in r e a c whole.right op.there serving named in
      let in_r : IsIn (joint a e) r.joints = subst (λ (x : Joint). IsIn x r.joints) (λ i. joint (asking i) (serves i)) joined in
      let ((b, there, asks), served, (n, x, f, t, seg, is)) = joint_trail w r fit ported whole a e in_r in
      let (plans, also) = named_so right x f seg is in
      then_serving w r fit ported whole F G past after e c Request None p op o s so opens
      (took_request p (origin w e).end c v (F (origin w e).plan).opens (is_open (F (origin w e).plan).past) (is_open (G (origin w e).plan).past)
      (F (origin w e).plan).tokens right at serving lies_k op.own (so.stands (origin w e).plan p op.is))
      (lies_then w r fit ported whole F G past after e c Request None p op o s so a x b n there named plans also t)
    where
      named_so : IsRight p → (x : Place) (f : End) → Segment w x f → origin w e ≡ place x.plan f
          → (x.plan ≡ (origin w e).plan) × (places_of p (origin w e).end ≡ Some x.end)
      named_so right x f (q, is_q, has_q) is =
          let plans : x.plan ≡ (origin w e).plan = ap (λ (y : Place). y.plan) (sym is) in
          let ends : f ≡ (origin w e).end = ap (λ (y : Place). y.end) (sym is) in
          let those : q ≡ p = cc (is_q, op.is, plans) in
          let in_p : IsIn (joint x.end f) p.joints = subst (λ (y : Plan). IsIn (joint x.end f) y.joints) those has_q in
          (plans, ap (places_of p) (sym ends) ∙ stands_there p (joint x.end f) f right in_p (serving_stands (joint x.end f)))

  -- an answer is put: the whole may put it, and it follows
  pub follows_put_answer : (F G : Family) (past after : List Pass) (e : End) (c : Contact) (v : ℕ) (p : Plan) (o : Open) (s : Tokens)
      → Op w r F G past after e c Answer (Some v) p → Follows w r F o past s → c.role ≡ Serve
      → ComesWell p (origin w e).end Answer (F (origin w e).plan).opens (F (origin w e).plan).tokens
      → (G (origin w e).plan).opens ≡ (F (origin w e).plan).opens
      → ComesWell r e Answer o s × Follows w r G o after (with_token r e Answer (Some v) s)
  follows_put_answer F G past after e c v p o s op so serving well opens = by_place (places_of p (origin w e).end) refl
    where
      right : IsRight p
      right = right_then w r fit ported whole F G past after e c Answer (Some v) p op o s so

      there : contact_at p (origin w e).end ≡ Some c
      there = at_then w r fit ported whole F G past after e c Answer (Some v) p op o s so

      of_source : (x : End) → places_of p (origin w e).end ≡ Some x → Segment w (place (origin w e).plan x) (origin w e).end
          → HasSource w r (place (origin w e).plan x) → ComesWell r e Answer o s × Follows w r G o after (with_token r e Answer (Some v) s)
      of_source x at seg (a, b, at_a, asks_a, n, t) = (
        (
          subst (λ (f : Option End). o (named_by f e) ≡ true) (sym named) (so.opens a b at_a asks_a ∙ first.0),
          λ u. ap (held_at s u) named ∙ empty u (s.in_place u a) refl,
        ),
        then_serving w r fit ported whole F G past after e c Answer (Some v) p op o s so opens
            (put_answer p (origin w e).end c v (F (origin w e).plan).opens (is_open (F (origin w e).plan).past) (is_open (G (origin w e).plan).past)
            (F (origin w e).plan).tokens right there serving well op.own (so.stands (origin w e).plan p op.is))
            (lies_then w r fit ported whole F G past after e c Answer (Some v) p op o s so a (place (origin w e).plan x) b n at_a named refl at t),
      )
        where
          joined : IsIn (joint a e) r.joints
          joined = trail_joint w r fit ported whole a e b c n (place (origin w e).plan x) (origin w e).end at_a asks_a op.there serving t seg refl

          named : places_of r e ≡ Some a
          named = stands_there r (joint a e) e whole.right joined (serving_stands (joint a e))

          up : open_at F (place (origin w e).plan x) ≡ true
          up = subst (λ (f : Option End). (F (origin w e).plan).opens (named_by f (origin w e).end) ≡ true) at well.0

          first : (open_at F (origin w a) ≡ true) × ((origin w a ≡ place (origin w e).plan x) ⊎ ((way : Direction) → lying F way (origin w a) ≡ None))
          first = chain w r fit ported whole F so.stands so.agree n (origin w a) (place (origin w e).plan x) t up

          none_here : (u : Direction) → lying F u (place (origin w e).plan x) ≡ None
          none_here u = sym (ap (held_at (F (origin w e).plan).tokens u) at) ∙ well.1 u

          clash : (u : Direction) (y : ℕ) → OnTrail w F (origin w a) u y → ⊥
          clash u y (m, z, t', lies) = by_test (nat_lt n m) refl
            where
              by_test : (b : Bool) → nat_lt n m ≡ b → ⊥
              by_test true test =
                  let small : n < m = grind (arith, nat_tests, test) in
                  let sum : m ≡ suc (m - suc n) + n = omega (arith, small) in
                  let rest = trail_rest w fit ported (suc (m - suc n)) n m (origin w a) (place (origin w e).plan x) z sum t t' in
                  let (f, g, seg', linked, asks_g, more) = trail_first w fit ported (m - suc n) (place (origin w e).plan x) z rest in
                  let ends = segment_one w fit ported (place (origin w e).plan x) f (origin w e).end seg' seg in
                  is_free w r fit ported whole e c op.there g (subst (λ (d : End). Linked w (place (origin w e).plan d) g) ends linked)
              by_test false test =
                  let large : m ≤ n = grind (arith, nat_tests, test) in
                  let sum : n ≡ n - m + m = omega (arith, large) in
                  let rest = trail_rest w fit ported (n - m) m n (origin w a) z (place (origin w e).plan x) sum t' t in
                  elim (chain w r fit ported whole F so.stands so.agree (n - m) z (place (origin w e).plan x) rest up).1 [
                    | inl same ↦ some_is_not_none y (lying F u z) lies (ap (lying F u) same ∙ none_here u)
                    | inr none ↦ some_is_not_none y (lying F u z) lies (none u)
                  ]

          empty : (u : Direction) (h : Option ℕ) → s.in_place u a ≡ h → s.in_place u a ≡ None
          empty u None is = is
          empty u (Some y) is = absurd (clash u y (so.lies a e joined u y is))

      by_place : (f : Option End) → places_of p (origin w e).end ≡ f → ComesWell r e Answer o s × Follows w r G o after (with_token r e Answer (Some v) s)
      by_place None none =
          let up : (F (origin w e).plan).opens (origin w e).end ≡ true =
          subst (λ (f : Option End). (F (origin w e).plan).opens (named_by f (origin w e).end) ≡ true) none well.0 in
          let never : true ≡ false = sym up ∙ (so.stands (origin w e).plan p op.is).only_asks (origin w e).end c there serving in
          cc never
      by_place (Some x) at =
          let (j, joined, asking, serves) = serves_in p (origin w e).end x c right there serving at in
          let seg : Segment w (place (origin w e).plan x) (origin w e).end =
          (p, op.is, subst (λ (y : Joint). IsIn y p.joints) (λ i. joint (asking i) (serves i)) joined) in
          let up : open_at F (place (origin w e).plan x) ≡ true =
          subst (λ (f : Option End). (F (origin w e).plan).opens (named_by f (origin w e).end) ≡ true) at well.0 in
          of_source x at seg
          (so.source (place (origin w e).plan x) (segment_roles w fit ported (place (origin w e).plan x) (origin w e).end seg).0 up)

  -- taking and putting, in either role
  pub follows_took : (F G : Family) (past after : List Pass) (e : End) (c : Contact) (v : ℕ) (p : Plan) (o : Open) (s : Tokens) (way : Direction)
      → way_taken c.role ≡ way → Op w r F G past after e c way None p → Follows w r F o past s → token_at r s e way ≡ Some v
      → token_at p (F (origin w e).plan).tokens (origin w e).end way ≡ Some v
      → (G (origin w e).plan).opens ≡ after_taken p (origin w e).end way (F (origin w e).plan).opens
      → Follows w r G (after_taken r e way o) after (with_token r e way None s)
  follows_took F G past after e c v p o s way is op so lies lies_k opens = by_role c.role refl
    where
      Kept : Direction → Type 0
      Kept u =
          Op w r F G past after e c u None p → token_at r s e u ≡ Some v → token_at p (F (origin w e).plan).tokens (origin w e).end u ≡ Some v
          → (G (origin w e).plan).opens ≡ after_taken p (origin w e).end u (F (origin w e).plan).opens
          → Follows w r G (after_taken r e u o) after (with_token r e u None s)

      by_role : (role : Role) → c.role ≡ role → Follows w r G (after_taken r e way o) after (with_token r e way None s)
      by_role Ask role =
          subst Kept (sym (ap way_taken role) ∙ is)
          (λ op' l k q. follows_took_answer F G past after e c v p o s op' so role l k q) op lies lies_k opens
      by_role Serve role =
          subst Kept (sym (ap way_taken role) ∙ is)
          (λ op' l k q. follows_took_request F G past after e c v p o s op' so role l k q) op lies lies_k opens

  pub follows_put : (F G : Family) (past after : List Pass) (e : End) (c : Contact) (v : ℕ) (p : Plan) (o : Open) (s : Tokens) (way : Direction)
      → way_put c.role ≡ way → Op w r F G past after e c way (Some v) p → Follows w r F o past s
      → ComesWell p (origin w e).end way (F (origin w e).plan).opens (F (origin w e).plan).tokens
      → (G (origin w e).plan).opens ≡ after_put p (origin w e).end way (F (origin w e).plan).opens
      → ComesWell r e way o s × Follows w r G (after_put r e way o) after (with_token r e way (Some v) s)
  follows_put F G past after e c v p o s way is op so well opens = by_role c.role refl
    where
      Kept : Direction → Type 0
      Kept u =
          Op w r F G past after e c u (Some v) p → ComesWell p (origin w e).end u (F (origin w e).plan).opens (F (origin w e).plan).tokens
          → (G (origin w e).plan).opens ≡ after_put p (origin w e).end u (F (origin w e).plan).opens
          → ComesWell r e u o s × Follows w r G (after_put r e u o) after (with_token r e u (Some v) s)

      by_role : (role : Role) → c.role ≡ role → ComesWell r e way o s × Follows w r G (after_put r e way o) after (with_token r e way (Some v) s)
      by_role Ask role =
          subst Kept (sym (ap way_put role) ∙ is)
          (λ op' l q. follows_put_request F G past after e c v p o s op' so role l q) op well opens
      by_role Serve role =
          subst Kept (sym (ap way_put role) ∙ is)
          (λ op' l q. follows_put_answer F G past after e c v p o s op' so role l q) op well opens

  -- a token that a part puts beyond its handshakes is lost
  pub follows_lost : (F G : Family) (past : List Pass) (i h : ℕ) (f : Part) (v : ℕ) (p : Plan) (o : Open) (s : Tokens) (way : Direction) → Follows w r F o past s
      → slice_get r.parts i ≡ Some f → contact_at r (PartEnd i h) ≡ None → slice_get w.plans (origin w (PartEnd i h)).plan ≡ Some p
      → ((m : ℕ) → (m ≡ (origin w (PartEnd i h)).plan → ⊥) → G m ≡ F m)
      → (G (origin w (PartEnd i h)).plan).past ≡ (F (origin w (PartEnd i h)).plan).past
      → (G (origin w (PartEnd i h)).plan).tokens.in_place
      ≡ (with_token p (origin w (PartEnd i h)).end way (Some v) (F (origin w (PartEnd i h)).plan).tokens).in_place
      → (G (origin w (PartEnd i h)).plan).opens ≡ after_put p (origin w (PartEnd i h)).end way (F (origin w (PartEnd i h)).plan).opens
      → ComesWell p (origin w (PartEnd i h)).end way (F (origin w (PartEnd i h)).plan).opens (F (origin w (PartEnd i h)).plan).tokens
      → ComesWell r (PartEnd i h) way o s × Follows w r G (after_put r (PartEnd i h) way o) past (with_token r (PartEnd i h) way (Some v) s)
  follows_lost F G past i h f v p o s way so at none is others pasts tokens opens well = (well_then way opens well, follows)
    where
      e : End
      e = PartEnd i h

      k : ℕ
      k = (origin w (PartEnd i h)).plan

      d : End
      d = (origin w (PartEnd i h)).end

      none_there : contact_at p d ≡ None
      none_there = sym (contact_place w (origin w (PartEnd i h)) p is) ∙ (seat_contact w r fit ported whole i h f at ∙ none)

      no_place : (q : Plan) (x : End) → IsRight q → contact_at q x ≡ None → places_of q x ≡ None
      no_place q x right nothing = by_place (places_of q x) refl
        where
          by_place : (g : Option End) → places_of q x ≡ g → g ≡ None
          by_place None is' = refl
          by_place (Some a) is' = let j = joined q x a right is' in let never : None ≡ Some j.here = sym nothing ∙ j.is_here in absurd (cc never)

      right : IsRight p
      right = fit.right k p is

      named : places_of p d ≡ None
      named = no_place p d right none_there

      named_r : places_of r e ≡ None
      named_r = no_place r e whole.right none

      own_p : handshake_at p d ≡ d
      own_p = ap (λ (g : Option End). named_by g d) named

      own_r : handshake_at r e ≡ e
      own_r = ap (λ (g : Option End). named_by g e) named_r

      same_s : with_token r e way (Some v) s ≡ s
      same_s = ap (λ (g : Option End). with_held way g (Some v) s) named_r

      same_place : (G k).tokens.in_place ≡ (F k).tokens.in_place
      same_place = tokens ∙ ap (λ (g : Option End). (with_held way g (Some v) (F k).tokens).in_place) named

      well_then : (u : Direction) → (G k).opens ≡ after_put p d u (F k).opens → ComesWell p d u (F k).opens (F k).tokens → ComesWell r e u o s
      well_then Request q shut = ap o own_r ∙ (so.lost i h f at none ∙ (ap (F k).opens (sym own_p) ∙ shut))
      well_then Answer q (up, empty) =
          (ap o own_r ∙ (so.lost i h f at none ∙ (ap (F k).opens (sym own_p) ∙ up)), λ u. ap (held_at s u) named_r)

      shown_then : (a : Place) → shown G a ≡ shown F a
      shown_then a = by_plan (told_number a.plan k)
        where
          by_plan : Told (a.plan ≡ k) → shown G a ≡ shown F a
          by_plan (inl same) =
              ap (λ (m : ℕ). is_open (G m).past a.end) same ∙ (ap (λ (z : List Pass). is_open z a.end) pasts ∙ ap (λ (m : ℕ). is_open (F m).past a.end) (sym same))
          by_plan (inr other) = ap (λ (t : Stand). is_open t.past a.end) (others a.plan other)

      lying_then : (u : Direction) (a : Place) → lying G u a ≡ lying F u a
      lying_then u a = by_plan (told_number a.plan k)
        where
          by_plan : Told (a.plan ≡ k) → lying G u a ≡ lying F u a
          by_plan (inl same) =
              ap (λ (m : ℕ). (G m).tokens.in_place u a.end) same ∙ ((λ z. same_place z u a.end) ∙ ap (λ (m : ℕ). (F m).tokens.in_place u a.end) (sym same))
          by_plan (inr other) = ap (λ (t : Stand). t.tokens.in_place u a.end) (others a.plan other)

      put_else : (u : Direction) (x : End) → (x ≡ d → ⊥) → after_put p d u (F k).opens x ≡ (F k).opens x
      put_else Request x apart = opened_apart (handshake_at p d) x true (F k).opens (λ same. apart (same ∙ own_p))
      put_else Answer x apart = refl

      put_else_r : (u : Direction) (x : End) → (x ≡ e → ⊥) → after_put r e u o x ≡ o x
      put_else_r Request x apart = opened_apart (handshake_at r e) x true o (λ same. apart (same ∙ own_r))
      put_else_r Answer x apart = refl

      put_here : (u : Direction) → after_put r e u o e ≡ after_put p d u (F k).opens d
      put_here Request = opened_here (handshake_at r e) e true o own_r ∙ sym (opened_here (handshake_at p d) d true (F k).opens own_p)
      put_here Answer = so.lost i h f at none

      only_more : (u : Direction) (x : End) → (F k).opens x ≡ true → after_put p d u (F k).opens x ≡ true
      only_more Request x up = by_end (told_end x d)
        where
          by_end : Told (x ≡ d) → after_put p d Request (F k).opens x ≡ true
          by_end (inl same) = subst (λ (y : End). after_put p d Request (F k).opens y ≡ true) (sym same) (opened_here (handshake_at p d) d true (F k).opens own_p)
          by_end (inr apart) = put_else Request x apart ∙ up
      only_more Answer x up = up

      open_else : (x : Place) → (x ≡ origin w e → ⊥) → open_at G x ≡ open_at F x
      open_else x apart = by_plan (told_number x.plan k)
        where
          by_plan : Told (x.plan ≡ k) → open_at G x ≡ open_at F x
          by_plan (inl same) =
              ap (λ (m : ℕ). (G m).opens x.end) same
              ∙ ((λ z. opens z x.end)
              ∙ (put_else way x.end (λ ends. apart (place_is x (origin w e) same ends)) ∙ ap (λ (m : ℕ). (F m).opens x.end) (sym same)))
          by_plan (inr other) = ap (λ (t : Stand). t.opens x.end) (others x.plan other)

      has_none : (x : Place) (c : Contact) → contact_of w x ≡ Some c → x ≡ origin w e → ⊥
      has_none x c there same =
          let never : None ≡ Some c = sym none ∙ (sym (seat_contact w r fit ported whole i h f at) ∙ (ap (contact_of w) (sym same) ∙ there)) in cc never

      differs : (x : End) (c : Contact) → contact_at r x ≡ Some c → x ≡ e → ⊥
      differs x c there same = let never : None ≡ Some c = sym none ∙ (ap (contact_at r) (sym same) ∙ there) in cc never

      differs_p : (x : End) (c : Contact) → contact_at p x ≡ Some c → x ≡ d → ⊥
      differs_p x c there same = let never : None ≡ Some c = sym none_there ∙ (ap (contact_at p) (sym same) ∙ there) in cc never

      before : Stands p (F k).opens (is_open (F k).past) (F k).tokens
      before = so.stands k p is

      fit_then : holding.AllFit (after_put p d way (F k).opens) (with_token p d way (Some v) (F k).tokens)
      fit_then = holding.put_well p d way v (F k).opens (F k).tokens well before.fit

      new : Stands p (after_put p d way (F k).opens) (is_open (F k).past) (F k).tokens
      new =
          record {
            fit = subst (λ (g : Option End). holding.AllFit (after_put p d way (F k).opens) (with_held way g (Some v) (F k).tokens)) named fit_then;
            asks_open = λ x c port there role. put_else way x (differs_p x c there) ∙ before.asks_open x c port there role;
            serves_open = λ x c port there role up.
                let (a, placed, a_open, request, answer) = before.serves_open x c port there role up in (a, placed, only_more way a a_open, request, answer);
            only_asks = λ x c there role. put_else way x (differs_p x c there) ∙ before.only_asks x c there role;
          }

      all_stand : (m : ℕ) (b : Plan) → slice_get w.plans m ≡ Some b → Stands b (G m).opens (is_open (G m).past) (G m).tokens
      all_stand m b is_b = by_plan (told_number m k)
        where
          by_plan : Told (m ≡ k) → Stands b (G m).opens (is_open (G m).past) (G m).tokens
          by_plan (inl same) =
              let plans : b ≡ p = cc (is_b, is, same) in
              subst (λ (x : Plan). Stands x (G m).opens (is_open (G m).past) (G m).tokens) (sym plans)
              (subst (λ (x : ℕ). Stands p (G x).opens (is_open (G x).past) (G x).tokens) (sym same)
              (subst (λ (x : Open). Stands p x (is_open (G k).past) (G k).tokens) (sym opens)
              (subst (λ (x : List Pass). Stands p (after_put p d way (F k).opens) (is_open x) (G k).tokens) (sym pasts)
              (stands_same p (after_put p d way (F k).opens) (is_open (F k).past) (F k).tokens (G k).tokens same_place new))))
          by_plan (inr other) = subst (λ (x : Stand). Stands b x.opens (is_open x.past) x.tokens) (sym (others m other)) (so.stands m b is_b)

      lost_then : (j g : ℕ) (q : Part) → slice_get r.parts j ≡ Some q → contact_at r (PartEnd j g) ≡ None
          → after_put r e way o (PartEnd j g) ≡ open_at G (origin w (PartEnd j g))
      lost_then j g q at_j nothing = by_end (told_end (PartEnd j g) e)
        where
          by_end : Told (PartEnd j g ≡ e) → after_put r e way o (PartEnd j g) ≡ open_at G (origin w (PartEnd j g))
          by_end (inl same) =
              subst (λ (x : End). after_put r e way o x ≡ open_at G (origin w x)) (sym same) (put_here way ∙ sym (λ z. opens z d))
          by_end (inr apart) =
              put_else_r way (PartEnd j g) apart
              ∙ (so.lost j g q at_j nothing
              ∙ sym (open_else (origin w (PartEnd j g)) (λ same. apart (let (one, two) = one_seat w r fit ported whole j i g h q f at_j at same in λ z. PartEnd (one z) (two z)))))

      follows : Follows w r G (after_put r e way o) past (with_token r e way (Some v) s)
      follows =
          record {
            stands = all_stand;
            agree = λ a b linked. shown_then a ∙ (so.agree a b linked ∙ sym (shown_then b));
            opens = λ x c there role. put_else_r way x (differs x c there)
                ∙ (so.opens x c there role ∙ sym (open_else (origin w x) (has_none (origin w x) c (at_place w r fit ported whole x c there))));
            lies = λ a b joint_in u z held.
                let (n, x, t, lies) = so.lies a b joint_in u z (subst (λ (y : Tokens). y.in_place u a ≡ Some z) same_s held) in (n, x, t, lying_then u x ∙ lies);
            source = λ x asks up. let (c, there, role) = asks in so.source x asks (sym (open_else x (has_none x c there)) ∙ up);
            lost = lost_then;
            ports = λ x c port there. so.ports x c port there ∙ sym (shown_then (origin w x));
            dead = λ a port loose. shown_then a ∙ so.dead a port loose;
          }
