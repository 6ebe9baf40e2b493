-- Paths of a wiring whose plans have joints where walks lead, of any relation: such a path is a walk of the relations and
-- links together, and back.
use Rattle.std.specs.Prelude.{◌≡◌, ◌≢◌, ◌↔◌, ℕ, zero, suc, ◌⊎◌, Option, Some, None, Contains, slice_get}
use Rattle.std.proofs.Common.{refl, sym, ◌∙◌, ap, subst, inl, inr}
use Rattle.gos_types.specs.declared.shakes.Role.{Role}
use Rattle.gos_types.specs.declared.shakes.Role.TheVariants.{Serve, Ask}
use Rattle.gos_plan.specs.Kinds.{Contact, asks, serves, turned_contact}
use Rattle.gos_plan.specs.Plans.{End, Plan, contact_at}
use Rattle.gos_plan.specs.Joining.{Place, Link, Wiring, JoinedWithin, Linked, Path}
use Rattle.gos_plan.proofs.DecidedLemmas.{Told}
use Rattle.gos_plan.proofs.WiringLemmas.{place_is}
use Rattle.gos_realises.specs.realises.Links.{contact_in}
use Rattle.gos_realises.proofs.joined.ReachLemmas.{told_end, Step, Paths, paths_then}
use Rattle.gos_joining.specs.webs.Webs.{joint}
use Rattle.gos_joining.specs.unions.Unions.{IsThere, LinksStand}
use Rattle.gos_joining.proofs.unions.WalkLemmas.{Walk, Walks, stays, goes, walks_then, walks_back, mapped_walk}

-- the two ways to write paths
pub path_walk : (w : Wiring) (n : ℕ) (a b : Place) → Path w n a b → Walk Place (Step w) n a b
path_walk w zero a b e = e
path_walk w (suc n) a b (c, s, p) = (c, s, path_walk w n c b p)

pub walk_path : (w : Wiring) (n : ℕ) (a b : Place) → Walk Place (Step w) n a b → Path w n a b
walk_path w zero a b e = e
walk_path w (suc n) a b (c, s, p) = (c, s, walk_path w n c b p)

pub paths_walks : (w : Wiring) (a b : Place) → Paths w a b → Walks Place (Step w) a b
paths_walks w a b (n, p) = (n, path_walk w n a b p)

pub walks_paths : (w : Wiring) (a b : Place) → Walks Place (Step w) a b → Paths w a b
walks_paths w a b (n, p) = (n, walk_path w n a b p)

-- Within a plan, steps `In` lead between points, and `at` tells where its ends stand.
module _ (D : Type 0) (In : D → D → Type 0) (at : End → D) where
  -- one end asks, the other serves, and a walk leads from one to the other
  abbrev pub Led : Plan → End → End → Type 0
  Led p a b =
      (q : ℕ) × (v : ℕ) × (contact_at p a ≡ Some (asks q v)) × (contact_at p b ≡ Some (serves q v)) × Walks D In (at a) (at b)

  -- the plan has a joint where a walk leads
  pub record IsLed (p : Plan) : Type 0 where
    pub fits :
        (a b : End) (c d : Contact) → contact_at p a ≡ Some c → contact_at p b ≡ Some d → a ≢ b → Walks D In (at a) (at b) → d ≡ turned_contact c
    pub joints : (a b : End) → Contains p.joints (joint a b) ↔ Led p a b

-- The same for each plan of a wiring.
module _ (D : Type 0) (In : ℕ → D → D → Type 0) (at : ℕ → End → D) where
  abbrev pub spot : Place → ℕ × D
  spot a = (a.plan, at a.plan a.end)

  abbrev pub Between : Link → ℕ × D → ℕ × D → Type 0
  Between l x y = ((x ≡ spot l.one) × (y ≡ spot l.other)) ⊎ ((x ≡ spot l.other) × (y ≡ spot l.one))

  -- a step of a plan, or a link
  abbrev pub Whole : Wiring → ℕ × D → ℕ × D → Type 0
  Whole w x y = ((x.0 ≡ y.0) × In x.0 x.1 y.1) ⊎ ((l : Link) × Contains w.links l × Between l x y)

module _ (D : Type 0) (In : ℕ → D → D → Type 0) (at : ℕ → End → D) (w : Wiring)
    (turn : (k : ℕ) (x y : D) → In k x y → In k y x) (led : (k : ℕ) (p : Plan) → slice_get w.plans k ≡ Some p → IsLed D (In k) (at k) p) (stand : LinksStand w)
  where
    abbrev Steps : ℕ × D → ℕ × D → Type 0
    Steps = Whole D In at w

    abbrev Goes : ℕ × D → ℕ × D → Type 0
    Goes = Walks (ℕ × D) Steps

    -- outward: a path is a walk
    lifted : (k : ℕ) (x y : D) → Walks D (In k) x y → Goes (k, x) (k, y)
    lifted k x y (n, u) = mapped_walk D (ℕ × D) (In k) Steps (λ z. (k, z)) (λ a b s. goes (ℕ × D) Steps (k, a) (k, b) (inl (refl, s))) n x y u

    joint_walk : (a b : Place) → JoinedWithin w a b → Goes (spot D In at a) (spot D In at b)
    joint_walk a b (p, j, same, is, has, ways) = by_led ((led a.plan p is).joints j.asking j.serving).0 ways
      where
        to : (e f : End) → Walks D (In a.plan) (at a.plan e) (at a.plan f) → a.end ≡ e → b.end ≡ f → Goes (spot D In at a) (spot D In at b)
        to e f walk at_a at_b =
            subst (λ (x : End). Goes (a.plan, at a.plan x) (spot D In at b)) (sym at_a)
            (subst (λ (k : ℕ). Goes (a.plan, at a.plan e) (k, at k b.end)) same
            (subst (λ (x : End). Goes (a.plan, at a.plan e) (a.plan, at a.plan x)) (sym at_b) (lifted a.plan (at a.plan e) (at a.plan f) walk)))

        by_led : (Contains p.joints j → Led D (In a.plan) (at a.plan) p j.asking j.serving) → ((a.end ≡ j.asking) × (b.end ≡ j.serving)) ⊎ ((a.end ≡ j.serving) × (b.end ≡ j.asking))
            → Goes (spot D In at a) (spot D In at b)
        by_led leads (inl (e, f)) = to j.asking j.serving (leads has).4 e f
        by_led leads (inr (e, f)) =
            to j.serving j.asking (walks_back D (In a.plan) (turn a.plan) (at a.plan j.asking) (at a.plan j.serving) (leads has).4) e f

    link_walk : (a b : Place) → Linked w a b → Goes (spot D In at a) (spot D In at b)
    link_walk a b (l, has, inl (e, f)) = goes (ℕ × D) Steps (spot D In at a) (spot D In at b) (inr (l, has, inl (ap (spot D In at) e, ap (spot D In at) f)))
    link_walk a b (l, has, inr (e, f)) = goes (ℕ × D) Steps (spot D In at a) (spot D In at b) (inr (l, has, inr (ap (spot D In at) e, ap (spot D In at) f)))

    one_walk : (a b : Place) → Step w a b → Goes (spot D In at a) (spot D In at b)
    one_walk a b (inl s) = joint_walk a b s
    one_walk a b (inr s) = link_walk a b s

    pub path_to_walk : (a b : Place) → Paths w a b → Goes (spot D In at a) (spot D In at b)
    path_to_walk a b (n, p) = mapped_walk Place (ℕ × D) (Step w) Steps (spot D In at) one_walk n a b (path_walk w n a b p)

    -- inward: two ends of one plan between which a walk of its own leads are one, or those of a joint
    near_in : (p : Plan) (a b : Place) (c d : Contact) → a.plan ≡ b.plan → slice_get w.plans a.plan ≡ Some p → contact_at p a.end ≡ Some c → contact_at p b.end ≡ Some d
        → Walks D (In a.plan) (at a.plan a.end) (at a.plan b.end) → Paths w a b
    near_in p a b c d same is at_a at_b walk = by_end (told_end a.end b.end)
      where
        by_role : (r : Role) → c.role ≡ r → d ≡ turned_contact c → Paths w a b
        by_role Ask e fit =
            let asked : c ≡ asks c.ask_bits c.answer_bits = λ i. record c { role = e i } in
            let served : d ≡ serves c.ask_bits c.answer_bits = fit ∙ ap turned_contact asked in
            let has = ((led a.plan p is).joints a.end b.end).1 (c.ask_bits, c.answer_bits, at_a ∙ ap Some asked, at_b ∙ ap Some served, walk) in
            (1, (b, inl (p, joint a.end b.end, same, is, has, inl (refl, refl)), refl))
        by_role Serve e fit =
            let served : c ≡ serves c.ask_bits c.answer_bits = λ i. record c { role = e i } in
            let asked : d ≡ asks c.ask_bits c.answer_bits = fit ∙ ap turned_contact served in
            let back = walks_back D (In a.plan) (turn a.plan) (at a.plan a.end) (at a.plan b.end) walk in
            let has = ((led a.plan p is).joints b.end a.end).1 (c.ask_bits, c.answer_bits, at_b ∙ ap Some asked, at_a ∙ ap Some served, back) in
            (1, (b, inl (p, joint b.end a.end, same, is, has, inr (refl, refl)), refl))

        by_end : Told (a.end ≡ b.end) → Paths w a b
        by_end (inl e) = (0, place_is a b same e)
        by_end (inr apart) = by_role c.role refl ((led a.plan p is).fits a.end b.end c d at_a at_b apart walk)

    near : (a b : Place) → IsThere w a → IsThere w b → a.plan ≡ b.plan → Walks D (In a.plan) (at a.plan a.end) (at a.plan b.end) → Paths w a b
    near a b (c, at_a) (d, at_b) same walk = by_plan (slice_get w.plans a.plan) refl at_a
      where
        by_plan : (o : Option Plan) → slice_get w.plans a.plan ≡ o → contact_in o a.end ≡ Some c → Paths w a b
        by_plan None none there = absurd (cc there)
        by_plan (Some p) is there =
            let of_b : slice_get w.plans b.plan ≡ Some p = ap (slice_get w.plans) (sym same) ∙ is in
            near_in p a b c d same is there (ap (λ (o : Option Plan). contact_in o b.end) (sym of_b) ∙ at_b) walk

    -- a walk that began at a place, and is now at a point of its plan
    up_to : (a b : Place) (z : ℕ × D) → IsThere w a → IsThere w b → a.plan ≡ z.0 → Walks D (In a.plan) (at a.plan a.end) z.1 → z ≡ spot D In at b → Paths w a b
    up_to a b z there_a there_b k walk e =
        let same : a.plan ≡ b.plan = k ∙ ap (λ (x : ℕ × D). x.0) e in
        let here : z.1 ≡ at a.plan b.end = ap (λ (x : ℕ × D). x.1) e ∙ ap (λ (m : ℕ). at m b.end) (sym same) in
        near a b there_a there_b same (subst (λ (x : D). Walks D (In a.plan) (at a.plan a.end) x) here walk)

    further : (n : ℕ) (a b : Place) (z : ℕ × D) → IsThere w a → IsThere w b → a.plan ≡ z.0 → Walks D (In a.plan) (at a.plan a.end) z.1
        → Walk (ℕ × D) Steps n z (spot D In at b) → Paths w a b
    further zero a b z there_a there_b k walk e = up_to a b z there_a there_b k walk e
    further (suc n) a b z there_a there_b k walk (y, inl (same, s), u) =
        let step : In a.plan z.1 y.1 = subst (λ (m : ℕ). In m z.1 y.1) (sym k) s in
        further n a b y there_a there_b (k ∙ same)
        (walks_then D (In a.plan) (at a.plan a.end) z.1 y.1 walk (goes D (In a.plan) z.1 y.1 step)) u
    further (suc n) a b z there_a there_b k walk (y, inr (l, has, inl (e, f)), u) =
        let (at_one, at_other) = stand l has in
        let on : Paths w l.other b = further n l.other b y at_other there_b (ap (λ (x : ℕ × D). x.0) (sym f)) (0, ap (λ (x : ℕ × D). x.1) (sym f)) u in
        paths_then w a l.one b (up_to a l.one z there_a at_one k walk e)
        (paths_then w l.one l.other b (1, (l.other, inr (l, has, inl (refl, refl)), refl)) on)
    further (suc n) a b z there_a there_b k walk (y, inr (l, has, inr (e, f)), u) =
        let (at_one, at_other) = stand l has in
        let on : Paths w l.one b = further n l.one b y at_one there_b (ap (λ (x : ℕ × D). x.0) (sym f)) (0, ap (λ (x : ℕ × D). x.1) (sym f)) u in
        paths_then w a l.other b (up_to a l.other z there_a at_other k walk e)
        (paths_then w l.other l.one b (1, (l.one, inr (l, has, inr (refl, refl)), refl)) on)

    pub walk_to_path : (a b : Place) → IsThere w a → IsThere w b → Goes (spot D In at a) (spot D In at b) → Paths w a b
    walk_to_path a b there_a there_b (n, u) = further n a b (spot D In at a) there_a there_b refl (stays D (In a.plan) (at a.plan a.end)) u
