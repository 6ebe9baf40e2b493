-- Trails: how a token goes from plan to plan, by a joint, a link, a joint and so on.
--
-- A trail leads from an end that asks to the asking ends of the joints that are passed. No end stands in two joints or in two
-- links, so of two trails from one end one is the front of the other, and trails from two ends that no link joins never meet.
use Rattle.std.specs.Prelude.{ℕ, zero, suc, ◌+◌, true, Option, Some, None, Contains, slice_get}
use Rattle.std.proofs.Common.{◌≡◌, [], ◌⊎◌, inl, inr, refl, sym, ◌∙◌, ap, subst, arith}
use Rattle.gos_types.specs.declared.shakes.Role.TheVariants.{Serve, Ask}
use Rattle.gos_types.specs.Handshakes.{turned}
use Rattle.gos_types.proofs.RoleLemmas.{ask_is_not_serve}
use Rattle.gos_plan.specs.Kinds.{Contact, turned_contact}
use Rattle.gos_plan.specs.Plans.{End, PartEnd, ImportEnd, ResultEnd, Joint, Plan, contact_at, stands_in, IsRight}
use Rattle.gos_plan.specs.Tokens.{IsPortEnd}
use Rattle.gos_plan.specs.Joining.{Place, place, Link, Wiring, JoinedWithin, Linked, Path}
use Rattle.gos_plan.proofs.JointLemmas.{IsIn, fits, one_joint, serving_role, contained, asking_stands, serving_stands}
use Rattle.gos_plan.proofs.ContactLemmas.{turned_contact_twice}
use Rattle.gos_plan.proofs.WiringLemmas.{linked_back, place_is}
use Rattle.gos_realises.specs.realises.Links.{contact_in, contact_of, EndsFit, LinkFits, LinksFit}
use Rattle.gos_joining.specs.webs.Webs.{joint}
use Rattle.gos_realises.proofs.realises.PlaceLemmas.{place_of}
use Rattle.gos_realises.proofs.joined.StepLemmas.{linked_one}

-- every link joins two ports
abbrev pub LinksArePorts : Wiring → Type 0
LinksArePorts w = (l : Link) → Contains w.links l → IsPortEnd l.one.end × IsPortEnd l.other.end

-- no link joins the place
abbrev pub IsUnlinked : Wiring → Place → Type 0
IsUnlinked w a = (b : Place) → Linked w a b → ⊥

-- the place asks, as the joints see it; or serves
abbrev pub AsksAt : Wiring → Place → Type 0
AsksAt w a = (c : Contact) × (contact_of w a ≡ Some c) × (c.role ≡ Ask)

abbrev pub ServesAt : Wiring → Place → Type 0
ServesAt w a = (c : Contact) × (contact_of w a ≡ Some c) × (c.role ≡ Serve)

-- a joint from the place to an end of the same plan
abbrev pub Segment : Wiring → Place → End → Type 0
Segment w b e = (p : Plan) × (slice_get w.plans b.plan ≡ Some p) × IsIn (joint b.end e) p.joints

-- a trail of so many joints and links
abbrev pub Trail : Wiring → ℕ → Place → Place → Type 0
Trail w zero a c = a ≡ c
Trail w (suc n) a c = (b : Place) × (e : End) × Trail w n a b × Segment w b e × Linked w (place b.plan e) c × AsksAt w c

ends_turn : (w : Wiring) (a b : Place) (c d : Contact) (e f : End) → IsPortEnd e → IsPortEnd f → EndsFit w a b c d e f → d ≡ turned_contact c
ends_turn w a b c d (PartEnd i h) f port also fit = absurd port
ends_turn w a b c d (ImportEnd i h) (PartEnd j g) port also fit = absurd also
ends_turn w a b c d (ImportEnd i h) (ImportEnd j g) port also fit = fit
ends_turn w a b c d (ImportEnd i h) (ResultEnd g) port also fit = fit
ends_turn w a b c d (ResultEnd h) (PartEnd j g) port also fit = absurd also
ends_turn w a b c d (ResultEnd h) (ImportEnd j g) port also fit = fit
ends_turn w a b c d (ResultEnd h) (ResultEnd g) port also fit = fit

pub contact_place : (w : Wiring) (a : Place) (p : Plan) → slice_get w.plans a.plan ≡ Some p → contact_of w a ≡ contact_at p a.end
contact_place w a p is = ap (λ (o : Option Plan). contact_in o a.end) is

pub plan_at : (w : Wiring) (a : Place) (c : Contact) → contact_of w a ≡ Some c
    → (p : Plan) × (slice_get w.plans a.plan ≡ Some p) × (contact_at p a.end ≡ Some c)
plan_at w a c there = by_plan (slice_get w.plans a.plan) refl there
  where
    by_plan : (o : Option Plan) → slice_get w.plans a.plan ≡ o → contact_in o a.end ≡ Some c
        → (p : Plan) × (slice_get w.plans a.plan ≡ Some p) × (contact_at p a.end ≡ Some c)
    by_plan None is at = absurd (cc at)
    by_plan (Some p) is at = (p, is, at)

abbrev Between : Link → Place → Place → Type 0
Between l a b = ((a ≡ l.one) × (b ≡ l.other)) ⊎ ((a ≡ l.other) × (b ≡ l.one))

module _ (w : Wiring) (fit : LinksFit w) (ported : LinksArePorts w) where
  link_fits : (l : Link) → Contains w.links l → LinkFits w l
  link_fits l has = let (k, at) = place_of w.links l has in fit.each k l at

  pub link_one : (a b c : Place) → Linked w a b → Linked w a c → b ≡ c
  link_one = linked_one w fit

  -- a link leads to another plan, and its ends see each other from the other side
  pub link_ports : (a b : Place) → Linked w a b → IsPortEnd a.end × IsPortEnd b.end
  link_ports a b (l, has, inl (e, f)) =
      let both = ported l has in (subst (λ (x : Place). IsPortEnd x.end) (sym e) both.0, subst (λ (x : Place). IsPortEnd x.end) (sym f) both.1)
  link_ports a b (l, has, inr (e, f)) =
      let both = ported l has in (subst (λ (x : Place). IsPortEnd x.end) (sym e) both.1, subst (λ (x : Place). IsPortEnd x.end) (sym f) both.0)

  pub link_apart : (a b : Place) → Linked w a b → a.plan ≡ b.plan → ⊥
  link_apart a b (l, has, inl (e, f)) same = (link_fits l has).0 (ap (λ (x : Place). x.plan) (sym e) ∙ (same ∙ ap (λ (x : Place). x.plan) f))
  link_apart a b (l, has, inr (e, f)) same = (link_fits l has).0 (ap (λ (x : Place). x.plan) (sym f) ∙ (sym same ∙ ap (λ (x : Place). x.plan) e))

  pub link_contacts : (a b : Place) → Linked w a b → (c : Contact) × (contact_of w a ≡ Some c) × (contact_of w b ≡ Some (turned_contact c))
  link_contacts a b (l, has, ways) = by_way (link_fits l has) ways
    where
      by_way : LinkFits w l → Between l a b → (c : Contact) × (contact_of w a ≡ Some c) × (contact_of w b ≡ Some (turned_contact c))
      by_way (apart, (c, d, at_one, at_other, ends)) (inl (e, f)) =
          let both = ported l has in
          let turn = ends_turn w l.one l.other c d l.one.end l.other.end both.0 both.1 ends in
          (c, ap (contact_of w) e ∙ at_one, ap (contact_of w) f ∙ (at_other ∙ ap Some turn))
      by_way (apart, (c, d, at_one, at_other, ends)) (inr (e, f)) =
          let both = ported l has in
          let turn = ends_turn w l.one l.other c d l.one.end l.other.end both.0 both.1 ends in
          (d, ap (contact_of w) e ∙ at_other, ap (contact_of w) f ∙ (at_one ∙ ap Some (sym (turned_contact_twice c) ∙ ap turned_contact (sym turn))))

  pub link_asks : (a b : Place) → Linked w a b → ServesAt w a → AsksAt w b
  link_asks a b linked (x, at, serves) =
      let (c, there, also) = link_contacts a b linked in
      let same : x ≡ c = cc (at, there) in
      (turned_contact c, also, ap (λ (y : Contact). turned y.role) (sym same) ∙ ap turned serves)

  pub link_serves : (a b : Place) → Linked w a b → AsksAt w a → ServesAt w b
  link_serves a b linked (x, at, asks) =
      let (c, there, also) = link_contacts a b linked in
      let same : x ≡ c = cc (at, there) in
      (turned_contact c, also, ap (λ (y : Contact). turned y.role) (sym same) ∙ ap turned asks)

  -- the ends of a segment
  pub segment_roles : (b : Place) (e : End) → Segment w b e → AsksAt w b × ServesAt w (place b.plan e)
  segment_roles b e (p, is, has) =
      let (q, v, asked, served) = fits p [] p.joints (joint b.end e) (fit.right b.plan p is) has in
      ((_, contact_place w b p is ∙ asked, refl), (_, contact_place w (place b.plan e) p is ∙ served, refl))

  pub not_both_roles : (a : Place) → AsksAt w a → ServesAt w a → ⊥
  not_both_roles a (c, there, asks) (d, also, serves) =
      let same : c ≡ d = cc (there, also) in ask_is_not_serve (sym asks ∙ (ap (λ (x : Contact). x.role) same ∙ serves))

  pub segment_one : (b : Place) (e f : End) → Segment w b e → Segment w b f → e ≡ f
  segment_one b e f (p, is, has) (q, is_too, has_too) =
      let plans : q ≡ p = cc (is, is_too) in
      let in_p : IsIn (joint b.end f) p.joints = subst (λ (x : Plan). IsIn (joint b.end f) x.joints) plans has_too in
      let same : joint b.end e ≡ joint b.end f =
      one_joint p [] p.joints (joint b.end e) (joint b.end f) b.end (fit.right b.plan p is) has in_p (asking_stands (joint b.end e)) (asking_stands (joint b.end f))
      in
      ap (λ (x : Joint). x.serving) same

  pub segment_back : (b c : Place) (e : End) → Segment w b e → Segment w c e → b.plan ≡ c.plan → b ≡ c
  segment_back b c e (p, is, has) (q, is_too, has_too) plans =
      let those : q ≡ p = cc (is, is_too, plans) in
      let in_p : IsIn (joint c.end e) p.joints = subst (λ (x : Plan). IsIn (joint c.end e) x.joints) those has_too in
      let same : joint b.end e ≡ joint c.end e =
      one_joint p [] p.joints (joint b.end e) (joint c.end e) e (fit.right b.plan p is) has in_p (serving_stands (joint b.end e)) (serving_stands (joint c.end e))
      in
      place_is b c plans (ap (λ (x : Joint). x.asking) same)

  -- of so many steps there is one trail
  pub trail_one : (n : ℕ) (a c d : Place) → Trail w n a c → Trail w n a d → c ≡ d
  trail_one zero a c d e f = sym e ∙ f
  trail_one (suc n) a c d (b, e, t, seg, linked, asks) (b', e', t', seg', linked', asks') =
      let same = trail_one n a b b' t t' in
      let ends = segment_one b' e e' (subst (λ (x : Place). Segment w x e) same seg) seg' in
      link_one (place b.plan e) c d linked
      (subst (λ (x : Place). Linked w x d) (sym (place_is (place b.plan e) (place b'.plan e') (ap (λ (x : Place). x.plan) same) ends)) linked')

  -- of two trails from one place the longer one goes on where the shorter one ends
  pub trail_rest : (m n k : ℕ) (a c d : Place) → k ≡ m + n → Trail w n a c → Trail w k a d → Trail w m c d
  trail_rest zero n k a c d sum t u = let same : k ≡ n = omega (arith, sum) in trail_one n a c d t (subst (λ (x : ℕ). Trail w x a d) same u)
  trail_rest (suc m) n zero a c d sum t u = absurd (omega (arith, sum))
  trail_rest (suc m) n (suc k) a c d sum t (b, e, u, seg, linked, asks) = (b, e, trail_rest m n k a c b (omega (arith, sum)) t u, seg, linked, asks)

  -- the first step of a trail, and the rest
  pub trail_first : (n : ℕ) (d c : Place) → Trail w (suc n) d c
      → (e : End) × (z : Place) × Segment w d e × Linked w (place d.plan e) z × AsksAt w z × Trail w n z c
  trail_first zero d c (b, e, t, seg, linked, asks) =
      (e, c, subst (λ (x : Place). Segment w x e) (sym t) seg, subst (λ (x : Place). Linked w (place x.plan e) c) (sym t) linked, asks, refl)
  trail_first (suc n) d c (b, e, t, seg, linked, asks) =
      let (f, z, first, led, asks_z, rest) = trail_first n d b t in (f, z, first, led, asks_z, (b, e, rest, seg, linked, asks))

  -- trails from two places that no link joins don't meet
  pub trail_start : (n m : ℕ) (a b c : Place) → IsUnlinked w a → IsUnlinked w b → Trail w n a c → Trail w m b c → a ≡ b
  trail_start zero zero a b c free also e f = e ∙ sym f
  trail_start zero (suc m) a b c free also e (x, d, t, seg, linked, asks) =
      absurd (free (place x.plan d) (subst (λ (y : Place). Linked w y (place x.plan d)) (sym e) (linked_back w (place x.plan d) c linked)))
  trail_start (suc n) zero a b c free also (x, d, t, seg, linked, asks) f =
      absurd (also (place x.plan d) (subst (λ (y : Place). Linked w y (place x.plan d)) (sym f) (linked_back w (place x.plan d) c linked)))
  trail_start (suc n) (suc m) a b c free also (x, d, t, seg, linked, asks) (y, e, u, seg', linked', asks') =
      let same = link_one c (place x.plan d) (place y.plan e) (linked_back w (place x.plan d) c linked) (linked_back w (place y.plan e) c linked') in
      let plans : x.plan ≡ y.plan = ap (λ (z : Place). z.plan) same in
      let ends : d ≡ e = ap (λ (z : Place). z.end) same in
      let one : x ≡ y = segment_back x y e (subst (Segment w x) ends seg) seg' plans in
      trail_start n m a b x free also t (subst (Trail w m b) (sym one) u)

  -- what a path from an end that asks and that no link joins comes to: an asking end of a trail, or the serving end of its joint
  abbrev At : Place → Place → Type 0
  At a c = ((n : ℕ) × Trail w n a c × AsksAt w c) ⊎ ((n : ℕ) × (b : Place) × (e : End) × Trail w n a b × Segment w b e × (c ≡ place b.plan e))

  stands_either : (j : Joint) (e b : End) → ((e ≡ j.asking) × (b ≡ j.serving)) ⊎ ((e ≡ j.serving) × (b ≡ j.asking)) → stands_in e j ≡ true
  stands_either j e b (inl (at, is)) = subst (λ (x : End). stands_in x j ≡ true) (sym at) (asking_stands j)
  stands_either j e b (inr (at, is)) = subst (λ (x : End). stands_in x j ≡ true) (sym at) (serving_stands j)

  by_joint : (a c d : Place) → At a c → JoinedWithin w c d → At a d
  by_joint a c d (inl (n, t, asks)) (p, j, same, is, has, inl (e, f)) =
      inr (n, c, d.end, t, (p, is, subst (λ (x : Joint). IsIn x p.joints) (λ i. joint (sym e i) (sym f i)) (contained p.joints j has)), place_is d (place c.plan d.end) (sym same) refl)
  by_joint a c d (inl (n, t, (x, there, asks))) (p, j, same, is, has, inr (e, f)) =
      absurd (ask_is_not_serve (sym asks
      ∙ serving_role p j x (fits p [] p.joints j (fit.right c.plan p is) (contained p.joints j has))
      (ap (contact_at p) (sym e) ∙ (sym (contact_place w c p is) ∙ there))))
  by_joint a c d (inr (n, b, e, t, seg, at)) joined = by_ways (subst (λ (x : Place). JoinedWithin w x d) at joined) seg
    where
      by_ways : JoinedWithin w (place b.plan e) d → Segment w b e → At a d
      by_ways (q, k, same, is_too, has_too, ways) (p, is, has) = of_joint ways
        where
          plans : q ≡ p
          plans = cc (is, is_too)

          right : IsRight p
          right = fit.right b.plan p is

          in_p : IsIn k p.joints
          in_p = subst (λ (x : Plan). IsIn k x.joints) plans (contained q.joints k has_too)

          one : k ≡ joint b.end e
          one = one_joint p [] p.joints k (joint b.end e) e right in_p has (stands_either k e d.end ways) (serving_stands (joint b.end e))

          of_joint : ((e ≡ k.asking) × (d.end ≡ k.serving)) ⊎ ((e ≡ k.serving) × (d.end ≡ k.asking)) → At a d
          of_joint (inl (f, g)) =
              let roles = segment_roles b e seg in
              let also : e ≡ b.end = f ∙ ap (λ (x : Joint). x.asking) one in
              absurd (not_both_roles b roles.0 (subst (ServesAt w) (place_is (place b.plan e) b refl also) roles.1))
          of_joint (inr (f, g)) =
              let is_b : d ≡ b = place_is d b (sym same) (g ∙ ap (λ (x : Joint). x.asking) one) in
              inl (n, subst (Trail w n a) (sym is_b) t, subst (AsksAt w) (sym is_b) (segment_roles b e seg).0)

  by_link : (a c d : Place) → IsUnlinked w a → At a c → Linked w c d → At a d
  by_link a c d free (inl (zero, t, asks)) linked = absurd (free d (subst (λ (x : Place). Linked w x d) (sym t) linked))
  by_link a c d free (inl (suc n, (b, e, t, seg, back, asks_c), asks)) linked =
      inr (n, b, e, t, seg, link_one c d (place b.plan e) linked (linked_back w (place b.plan e) c back))
  by_link a c d free (inr (n, b, e, t, seg, at)) linked =
      let led : Linked w (place b.plan e) d = subst (λ (x : Place). Linked w x d) at linked in
      let asks = link_asks (place b.plan e) d led (segment_roles b e seg).1 in
      inl (suc n, (b, e, t, seg, led, asks), asks)

  along_path : (n : ℕ) (a c d : Place) → IsUnlinked w a → At a c → Path w n c d → At a d
  along_path zero a c d free at e = subst (At a) e at
  along_path (suc n) a c d free at (b, inl joined, path) = along_path n a b d free (by_joint a c b at joined) path
  along_path (suc n) a c d free at (b, inr linked, path) = along_path n a b d free (by_link a c b free at linked) path

  -- a path to an end that serves and that no link joins is a trail to its joint
  pub path_trail : (n : ℕ) (a b : Place) → IsUnlinked w a → AsksAt w a → ServesAt w b → Path w n a b
      → (m : ℕ) × (c : Place) × (e : End) × Trail w m a c × Segment w c e × (b ≡ place c.plan e)
  path_trail n a b free asks serves path = by_case (along_path n a a b free (inl (0, refl, asks)) path)
    where
      by_case : At a b → (m : ℕ) × (c : Place) × (e : End) × Trail w m a c × Segment w c e × (b ≡ place c.plan e)
      by_case (inl (m, t, asks_b)) = absurd (not_both_roles b asks_b serves)
      by_case (inr found) = found
