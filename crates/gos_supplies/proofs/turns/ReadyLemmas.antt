-- A token that lies at an end of the whole can be led to where the end stands in its plan; so what is to take it takes it.
use Rattle.std.specs.Prelude.{ℕ, suc, ◌+◌, ◌-◌, ◌≤◌, ◌<◌, Bool, true, false, List, Option, Some, None, All, slice_get, nat_lt}
use Rattle.std.proofs.Common.{◌≡◌, refl, sym, ◌∙◌, ap, subst, arith}
use Rattle.std.proofs.lemmas.Bool.Decides.{nat_tests}
use Rattle.gos_types.specs.declared.shakes.Role.{Role}
use Rattle.gos_types.specs.declared.shakes.Role.TheVariants.{Serve, Ask}
use Rattle.gos_types.specs.Events.{Direction, Request, Answer}
use Rattle.gos_plan.specs.Kinds.{Part, Contact}
use Rattle.gos_plan.specs.Plans.{End, PartEnd, Joint, Plan, contact_at, contacts_of_part}
use Rattle.gos_plan.specs.Tokens.{Tokens, places_of, held_at, token_at, end_of, way_of, shake_of, firing_of, way_taken}
use Rattle.gos_plan.specs.TokenBits.{LiteralFits}
use Rattle.gos_plan.specs.Orderly.{Open, AllWelcome}
use Rattle.gos_plan.specs.Joining.{Place, place, Wiring, Linked, origin, IsJoining}
use Rattle.gos_plan.proofs.JointLemmas.{IsIn, found, stands_there, asking_stands, serving_stands}
use Rattle.gos_realises.specs.realises.Regular.{Pass, IsRegular}
use Rattle.gos_realises.specs.realises.Links.{LinksFit}
use Rattle.gos_joining.specs.webs.Webs.{joint}
use Rattle.gos_supplies.proofs.turns.StandLemmas.{asks_own, serves_in, lies_in}
use Rattle.gos_supplies.proofs.turns.TrailLemmas.{LinksArePorts, IsUnlinked, Segment, Trail, trail_rest, trail_first, segment_one}
use Rattle.gos_supplies.proofs.turns.FollowLemmas.{Family, lying, is_free, joint_trail, seat}
use Rattle.gos_supplies.proofs.turns.GoesLemmas.{PassesTurns, Goes, SameStates, on_the_way, goes_on, goes_home}

module _ (w : Wiring) (r : Plan) (fit : LinksFit w) (ported : LinksArePorts w) (whole : IsJoining w r)
    (regular : (k : ℕ) (p : Plan) → slice_get w.plans k ≡ Some p → IsRegular p)
    (literals : (k : ℕ) (p : Plan) → slice_get w.plans k ≡ Some p → All LiteralFits p.parts) (passes : PassesTurns w r) where
  -- a place of a trail, and the trail to the last joint
  within : (n m : ℕ) (a x d : Place) (f : End) → Trail w n a x → Trail w m a d → Segment w d f → IsUnlinked w (place d.plan f) → Trail w (m - n) x d
  within n m a x d f t u seg free = by_test (nat_lt m n) refl
    where
      by_test : (b : Bool) → nat_lt m n ≡ b → Trail w (m - n) x d
      by_test true test =
          let less : m < n = grind (arith, nat_tests, test) in
          let sum : n ≡ suc (n - suc m) + m = omega (arith, less) in
          let (g, z, first, linked, asks, rest) = trail_first w fit ported (n - suc m) d x (trail_rest w fit ported (suc (n - suc m)) m n a d x sum u t) in
          absurd (free z (subst (λ (y : End). Linked w (place d.plan y) z) (segment_one w fit ported d g f first seg) linked))
      by_test false test =
          let large : n ≤ m = grind (arith, nat_tests, test) in
          let sum : m ≡ m - n + n = omega (arith, large) in
          trail_rest w fit ported (m - n) n m a x d sum t u

  placed_at : (d : Place) (f : End) (p : Plan) → slice_get w.plans d.plan ≡ Some p → Segment w d f → (places_of p d.end ≡ Some d.end) × (places_of p f ≡ Some d.end)
  placed_at d f p is (q, is_q, has) =
      let those : q ≡ p = cc (is_q, is) in
      let in_p : IsIn (joint d.end f) p.joints = subst (λ (y : Plan). IsIn (joint d.end f) y.joints) those has in (
        stands_there p (joint d.end f) d.end (fit.right d.plan p is) in_p (asking_stands (joint d.end f)),
        stands_there p (joint d.end f) f (fit.right d.plan p is) in_p (serving_stands (joint d.end f)),
      )

  -- a token on the joint of an end is at the end
  token_there : (G : Family) (z d : Place) (p : Plan) (way : Direction) (v : ℕ) → z.plan ≡ d.plan → places_of p z.end ≡ Some d.end → lying G way d ≡ Some v
      → token_at p (G z.plan).tokens z.end way ≡ Some v
  token_there G z d p way v plans named now =
      ap (held_at (G z.plan).tokens way) named ∙ (ap (λ (k : ℕ). (G k).tokens.in_place way d.end) plans ∙ now)

  abbrev Ready : Family → Open → List Pass → Tokens → End → Direction → ℕ → Plan → Type 0
  Ready F o past s e way v p =
      (G : Family) × Goes w r G o past s × (token_at p (G (origin w e).plan).tokens (origin w e).end way ≡ Some v) × SameStates F G

  pub ready : (F : Family) (o : Open) (past : List Pass) (s : Tokens) → Goes w r F o past s → (e : End) (c : Contact) (way : Direction) (v : ℕ) (p : Plan)
      → contact_at r e ≡ Some c → way_taken c.role ≡ way → token_at r s e way ≡ Some v → slice_get w.plans (origin w e).plan ≡ Some p
      → Ready F o past s e way v p
  ready F o past s so e c way v p there is lies at = by_role c.role refl
    where
      at_server : c.role ≡ Serve → token_at r s e Request ≡ Some v → Ready F o past s e Request v p
      at_server role lies =
          let (a, named, held) = lies_in r e Request v s lies in
          let (j, has, asking, serves) = serves_in r e a c whole.right there role named in
          let joined : IsIn (joint a e) r.joints = subst (λ (x : Joint). IsIn x r.joints) (λ i. joint (asking i) (serves i)) has in
          let (asked, served, (m, d, f, u, seg, stands)) = joint_trail w r fit ported whole a e joined in
          let (n, x, t, held_x) = so.follows.lies a e joined Request v held in
          let free : IsUnlinked w (place d.plan f) = subst (IsUnlinked w) stands (is_free w r fit ported whole e c there) in
          let rest = within n m (origin w a) x d f t u seg free in
          let (G, goes, now, same) = goes_on w r fit ported whole regular literals passes (m - n) F o past s so x d f v rest seg held_x in
          let plans : d.plan ≡ (origin w e).plan = ap (λ (y : Place). y.plan) (sym stands) in
          let ends : (origin w e).end ≡ f = ap (λ (y : Place). y.end) stands in
          let here = placed_at d f p (ap (slice_get w.plans) plans ∙ at) seg in
          let shown = token_there G (origin w e) d p Request v (sym plans) (ap (places_of p) ends ∙ here.1) now in
          (G, goes, shown, same)

      at_asker : c.role ≡ Ask → token_at r s e Answer ≡ Some v → Ready F o past s e Answer v p
      at_asker role lies =
          let (a, named, held) = lies_in r e Answer v s lies in
          let own : a ≡ e = asks_own r e a c whole.right there role named in
          let j = found r.joints e a named in
          let joined : IsIn (joint e j.joint.serving) r.joints = subst (λ (x : End). IsIn (joint x j.joint.serving) r.joints) (j.named ∙ own) j.is_in in
          let (asked, (b, there_b, role_b), (m, d, f, u, seg, stands)) = joint_trail w r fit ported whole e j.joint.serving joined in
          let (n, x, t, held_x) = so.follows.lies e j.joint.serving joined Answer v (ap (s.in_place Answer) (sym own) ∙ held) in
          let free : IsUnlinked w (place d.plan f) = subst (IsUnlinked w) stands (is_free w r fit ported whole j.joint.serving b there_b) in
          let (g, next) = on_the_way w r fit ported whole regular literals passes (m - n) x d f (within n m (origin w e) x d f t u seg free) seg in
          let (g0, first) = on_the_way w r fit ported whole regular literals passes m (origin w e) d f u seg in
          let (G, goes, now, same) = goes_home w r fit ported whole regular literals passes n F o past s so (origin w e) x g v t next held_x in
          let here = placed_at (origin w e) g0 p at first in
          let shown = token_there G (origin w e) (origin w e) p Answer v refl here.0 now in
          (G, goes, shown, same)

      by_role : (role : Role) → c.role ≡ role → Ready F o past s e way v p
      by_role Serve role =
          let ways : Request ≡ way = sym (ap way_taken role) ∙ is in
          subst (λ (u : Direction). Ready F o past s e u v p) ways (at_server role (subst (λ (u : Direction). token_at r s e u ≡ Some v) (sym ways) lies))
      by_role Ask role =
          let ways : Answer ≡ way = sym (ap way_taken role) ∙ is in
          subst (λ (u : Direction). Ready F o past s e u v p) ways (at_asker role (subst (λ (u : Direction). token_at r s e u ≡ Some v) (sym ways) lies))

  -- the part at which a handshake is
  pub part_there : (i h : ℕ) (c : Contact) → contact_at r (PartEnd i h) ≡ Some c → (f : Part) × (slice_get r.parts i ≡ Some f)
  part_there i h c there = by_part (slice_get r.parts i) refl there
    where
      by_part : (g : Option Part) → slice_get r.parts i ≡ g → slice_get (contacts_of_part g) h ≡ Some c → (f : Part) × (slice_get r.parts i ≡ Some f)
      by_part None is at = absurd (cc at)
      by_part (Some f) is at = (f, is)

  pub all_welcome : (F : Family) (o : Open) (past : List Pass) (s : Tokens) → Goes w r F o past s → AllWelcome r s
  all_welcome F o past s so i t c v there is lies =
      let (f, has) = part_there i (shake_of t) c there in
      let here = seat w r fit ported whole i f has in
      let stands = here.stands (shake_of t) in
      let at : slice_get w.plans (origin w (end_of i t)).plan ≡ Some here.of = ap (λ (x : Place). slice_get w.plans x.plan) stands ∙ here.is in
      let (G, goes, token, same) = ready F o past s so (end_of i t) c (way_of t) v here.of there is lies at in
      let contact : contact_at here.of (end_of here.part t) ≡ Some c =
      ap (λ (g : Option Part). slice_get (contacts_of_part g) (shake_of t)) (here.has ∙ sym has) ∙ there in
      let token_here : token_at here.of (G here.plan).tokens (end_of here.part t) (way_of t) ≡ Some v =
      sym (ap (λ (x : Place). token_at here.of (G x.plan).tokens x.end (way_of t)) stands) ∙ token in
      let (row, fires) = (goes.reached here.plan here.of here.is).welcome here.part t c v contact is token_here in
      let parts : slice_get r.parts i ≡ slice_get here.of.parts here.part = has ∙ sym here.has in
      (row, (λ z. firing_of (parts z) (goes.states i f here has z) t) ∙ fires)
