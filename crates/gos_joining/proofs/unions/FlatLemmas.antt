-- A joining of joinings is the joining of the flat wiring, and back: paths of one are paths of the other.
use Rattle.std.specs.Prelude.{◌≡◌, ℕ, ◌+◌, ◌<◌, List, ◌⊎◌, length, Option, Some, None, slice_get}
use Rattle.std.proofs.Common.{refl, sym, ◌∙◌, ap, subst, inl, inr}
use Rattle.std.proofs.lemmas.Option.{slice_get_within}
use Rattle.gos_plan.specs.Kinds.{Contact, asks, serves}
use Rattle.gos_plan.specs.Plans.{End, Plan, contact_at}
use Rattle.gos_plan.specs.Joining.{Place, place, Link, Wiring, origin, JoinedWithin, Linked, Connects, IsJoining}
use Rattle.gos_plan.proofs.WiringLemmas.{place_is}
use Rattle.gos_realises.proofs.joined.ReachLemmas.{Step, Paths, step_back}
use Rattle.gos_joining.specs.unions.Unions.{IsThere, LinksStand, HasFieldsOf}
use Rattle.gos_joining.specs.unions.Flat.{all_plans, first_of, later, later_link, origin_if, deeper, deeper_link, flat, AreJoinings, AllLinksStand, JoiningsJoin, FlatJoins}
use Rattle.gos_joining.proofs.unions.WalkLemmas.{Walks, goes, mapped_walk, followed_walk}
use Rattle.gos_joining.proofs.unions.PathLemmas.{path_walk, walk_path, paths_walks, walks_paths, IsLed, spot, Whole, path_to_walk, walk_to_path}
use Rattle.gos_joining.proofs.unions.PlaceLemmas.{fields_of, stands_at}
use Rattle.gos_joining.proofs.unions.NumberLemmas.{wiring_of, stands_of, flat_at}
use Rattle.gos_joining.proofs.unions.LinkLemmas.{in_range, flat_inner, flat_outer, OfWiring, OfOuter, of_flat}
use Rattle.gos_joining.proofs.unions.DeepLemmas.{there_in, wiring_at, same_place, origin_deep, fields_flat, fields_back}

-- a step of the wiring that there is
abbrev StepOf : Option Wiring → Place → Place → Type 0
StepOf None a b = ⊥
StepOf (Some v) a b = Step v a b

turn_of : (o : Option Wiring) (a b : Place) → StepOf o a b → StepOf o b a
turn_of None a b s = s
turn_of (Some v) a b s = step_back v a b s

module _ (w : Wiring) (vs : List Wiring) (are : AreJoinings vs w.plans) (all_stand : AllLinksStand vs) (stand : LinksStand w) where
  abbrev In : ℕ → Place → Place → Type 0
  In k = StepOf (slice_get vs k)

  abbrev at : ℕ → End → Place
  at k = origin_if (slice_get vs k)

  abbrev Steps : ℕ × Place → ℕ × Place → Type 0
  Steps = Whole Place In at w

  abbrev FlatStep : Place → Place → Type 0
  FlatStep = Step (flat w vs)

  -- a point of wiring k, in the flat one
  abbrev deep : ℕ × Place → Place
  deep x = later (first_of vs x.0) x.1

  turn : (k : ℕ) (x y : Place) → In k x y → In k y x
  turn k = turn_of (slice_get vs k)

  led : (k : ℕ) (p : Plan) → slice_get w.plans k ≡ Some p → IsLed Place (In k) (at k) p
  led k p is =
      let joins = wiring_of vs w.plans k p are is in
      let same : joins.plan ≡ p = (let both : Some joins.plan ≡ Some p = sym joins.is_plan ∙ is in cc both) in
      subst (λ (o : Option Wiring). IsLed Place (StepOf o) (origin_if o) p) (sym joins.is_wiring)
      (of_wiring joins.wiring (subst (IsJoining joins.wiring) same joins.joins))
    where
      of_wiring : (v : Wiring) → IsJoining v p → IsLed Place (Step v) (origin v) p
      of_wiring v joins =
          record {
            fits = λ a b c d at_a at_b apart walk. joins.fits a b c d walk.0 at_a at_b apart (walk_path v walk.0 (origin v a) (origin v b) walk.1);
            joints = λ a b. (
              λ has. (let (q, n, m, asked, served, path) = (joins.joints a b).0 has in
                  (q, n, asked, served, (m, path_walk v m (origin v a) (origin v b) path))),
              λ leads. (joins.joints a b).1 (leads.0, leads.1, leads.4.0, leads.2, leads.3, walk_path v leads.4.0 (origin v a) (origin v b) leads.4.1),
            );
          }

  -- a step is one of the flat wiring
  inner_step : (k : ℕ) (a b : Place) (o : Option Wiring) → slice_get vs k ≡ o → StepOf o a b → FlatStep (later (first_of vs k) a) (later (first_of vs k) b)
  inner_step k a b None is s = absurd s
  inner_step k a b (Some v) is (inl (p, j, same, there, has, ways)) =
      inl (
        p,
        j,
        ap (λ (n : ℕ). first_of vs k + n) same,
        flat_at vs k a.plan v is (slice_get_within v.plans a.plan p there) ∙ there,
        has,
        ways,
      )
  inner_step k a b (Some v) is (inr (l, has, inl (e, f))) =
      inr (later_link (first_of vs k) l, flat_inner w vs k v l is has, inl (ap (later (first_of vs k)) e, ap (later (first_of vs k)) f))
  inner_step k a b (Some v) is (inr (l, has, inr (e, f))) =
      inr (later_link (first_of vs k) l, flat_inner w vs k v l is has, inr (ap (later (first_of vs k)) e, ap (later (first_of vs k)) f))

  step_flat : (x y : ℕ × Place) → Steps x y → FlatStep (deep x) (deep y)
  step_flat x y (inl (same, s)) = subst (λ (k : ℕ). FlatStep (deep x) (later (first_of vs k) y.1)) same (inner_step x.0 x.1 y.1 (slice_get vs x.0) refl s)
  step_flat x y (inr (l, has, inl (e, f))) = inr (deeper_link vs l, flat_outer w vs l has, inl (ap deep e, ap deep f))
  step_flat x y (inr (l, has, inr (e, f))) = inr (deeper_link vs l, flat_outer w vs l has, inr (ap deep e, ap deep f))

  -- and a step of the flat wiring from where a point lies is a step
  abbrev IsDeep : Place → ℕ × Place → Type 0
  IsDeep a x = (a ≡ deep x) × ((v : Wiring) × (slice_get vs x.0 ≡ Some v) × (x.1.plan < length v.plans))

  abbrev Onward : Place → ℕ × Place → Type 0
  Onward b x = (y : ℕ × Place) × IsDeep b y × Walks (ℕ × Place) Steps x y

  at_end : (a : Place) → IsThere w a → (v : Wiring) × (slice_get vs a.plan ≡ Some v) × ((origin_if (slice_get vs a.plan) a.end).plan < length v.plans)
  at_end a there =
      let (v, is) = wiring_at w vs are all_stand stand a there in
      let low = in_range v (origin v a.end) (there_in w vs are all_stand stand a there v is) in
      (v, is, subst (λ (o : Option Wiring). (origin_if o a.end).plan < length v.plans) (sym is) low)

  along_joint : (a b : Place) (x : ℕ × Place) → IsDeep a x → JoinedWithin (flat w vs) a b → Onward b x
  along_joint a b x (lies, (v, is_v, low)) (p, j, same, is, has, ways) = (
    y,
    (place_is b (deep y) (sym same ∙ plans) refl, (v, is_v, low)),
    goes (ℕ × Place) Steps x y (inl (refl, subst (λ (o : Option Wiring). StepOf o x.1 y.1) (sym is_v) (inl (p, j, refl, there, has, moved ways)))),
  )
    where
      y : ℕ × Place
      y = (x.0, place x.1.plan b.end)

      plans : a.plan ≡ first_of vs x.0 + x.1.plan
      plans = ap (λ (z : Place). z.plan) lies

      there : slice_get v.plans x.1.plan ≡ Some p
      there = sym (flat_at vs x.0 x.1.plan v is_v low) ∙ (ap (slice_get (all_plans vs)) (sym plans) ∙ is)

      ends : x.1.end ≡ a.end
      ends = ap (λ (z : Place). z.end) (sym lies)

      moved : ((a.end ≡ j.asking) × (b.end ≡ j.serving)) ⊎ ((a.end ≡ j.serving) × (b.end ≡ j.asking))
          → ((x.1.end ≡ j.asking) × (b.end ≡ j.serving)) ⊎ ((x.1.end ≡ j.serving) × (b.end ≡ j.asking))
      moved (inl (e, f)) = inl (ends ∙ e, f)
      moved (inr (e, f)) = inr (ends ∙ e, f)

  along_inner : (k : ℕ) (u : Wiring) (c d : Place) → slice_get vs k ≡ Some u → Linked u c d → IsThere u c → IsThere u d
      → (a b : Place) (x : ℕ × Place) → IsDeep a x → a ≡ later (first_of vs k) c → b ≡ later (first_of vs k) d → Onward b x
  along_inner k u c d is_u linked there_c there_d a b x (lies, (v, is_v, low)) at_c at_d =
      let found = same_place w vs are all_stand stand x.0 k v u x.1 c is_v is_u low (in_range u c there_c) (sym lies ∙ at_c) in
      let of_x : slice_get vs x.0 ≡ Some u = ap (slice_get vs) found.0 ∙ is_u in
      let step : StepOf (slice_get vs x.0) x.1 d =
      subst (λ (o : Option Wiring). StepOf o x.1 d) (sym of_x) (subst (λ (z : Place). Step u z d) (sym found.1) (inr linked))
      in
      ((k, d), (at_d, (u, is_u, in_range u d there_d)), goes (ℕ × Place) Steps x (k, d) (inl (found.0, step)))

  along_outer : (c d : Place) → ((x y : ℕ × Place) → x ≡ spot Place In at c → y ≡ spot Place In at d → Steps x y) → IsThere w c → IsThere w d
      → (a b : Place) (x : ℕ × Place) → IsDeep a x → a ≡ deeper vs c → b ≡ deeper vs d → Onward b x
  along_outer c d step there_c there_d a b x (lies, (v, is_v, low)) at_c at_d =
      let (u, is_u, low_u) = at_end c there_c in
      let found = same_place w vs are all_stand stand x.0 c.plan v u x.1 (origin_if (slice_get vs c.plan) c.end) is_v is_u low low_u (sym lies ∙ at_c) in
      let is_spot : x ≡ spot Place In at c = λ i. (found.0 i, found.1 i) in
      (spot Place In at d, (at_d, at_end d there_d), goes (ℕ × Place) Steps x (spot Place In at d) (step x (spot Place In at d) is_spot refl))

  along_link : (a b : Place) (x : ℕ × Place) (m : Link) → IsDeep a x → ((a ≡ m.one) × (b ≡ m.other)) ⊎ ((a ≡ m.other) × (b ≡ m.one))
      → OfWiring vs m ⊎ OfOuter w vs m → Onward b x
  along_link a b x m lies (inl (e, f)) (inl (k, u, l, is_u, has, same)) =
      let there = stands_of vs k u all_stand is_u l has in
      along_inner k u l.one l.other is_u (l, has, inl (refl, refl)) there.0 there.1 a b x lies (e ∙ ap (λ (y : Link). y.one) (sym same)) (f ∙ ap (λ (y : Link). y.other) (sym same))
  along_link a b x m lies (inr (e, f)) (inl (k, u, l, is_u, has, same)) =
      let there = stands_of vs k u all_stand is_u l has in
      along_inner k u l.other l.one is_u (l, has, inr (refl, refl)) there.1 there.0 a b x lies (e ∙ ap (λ (y : Link). y.other) (sym same)) (f ∙ ap (λ (y : Link). y.one) (sym same))
  along_link a b x m lies (inl (e, f)) (inr (l, has, same)) =
      let there = stand l has in
      along_outer l.one l.other (λ y z at_one at_other. inr (l, has, inl (at_one, at_other))) there.0 there.1 a b x lies
      (e ∙ ap (λ (y : Link). y.one) (sym same)) (f ∙ ap (λ (y : Link). y.other) (sym same))
  along_link a b x m lies (inr (e, f)) (inr (l, has, same)) =
      let there = stand l has in
      along_outer l.other l.one (λ y z at_one at_other. inr (l, has, inr (at_one, at_other))) there.1 there.0 a b x lies
      (e ∙ ap (λ (y : Link). y.other) (sym same)) (f ∙ ap (λ (y : Link). y.one) (sym same))

  onward : (a b : Place) (x : ℕ × Place) → IsDeep a x → FlatStep a b → Onward b x
  onward a b x lies (inl joined) = along_joint a b x lies joined
  onward a b x lies (inr (m, has, ways)) = along_link a b x m lies ways (of_flat w vs m has)

  pub path_to_flat : (a b : Place) → Paths w a b → Paths (flat w vs) (deeper vs a) (deeper vs b)
  path_to_flat a b path =
      let (n, u) = path_to_walk Place In at w turn led stand a b path in
      walks_paths (flat w vs) (deeper vs a) (deeper vs b)
      (mapped_walk (ℕ × Place) Place Steps FlatStep deep (λ x y s. goes Place FlatStep (deep x) (deep y) (step_flat x y s)) n (spot Place In at a) (spot Place In at b) u)

  pub path_from_flat : (a b : Place) → IsThere w a → IsThere w b → Paths (flat w vs) (deeper vs a) (deeper vs b) → Paths w a b
  path_from_flat a b there_a there_b path =
      let (n, u) = paths_walks (flat w vs) (deeper vs a) (deeper vs b) path in
      let (y, (lies, (v, is_v, low)), walk) =
      followed_walk Place (ℕ × Place) FlatStep Steps IsDeep onward n (deeper vs a) (deeper vs b) (spot Place In at a) (refl, at_end a there_a) u
      in
      let (x, is_x, low_x) = at_end b there_b in
      let found = same_place w vs are all_stand stand y.0 b.plan v x y.1 (origin_if (slice_get vs b.plan) b.end) is_v is_x low low_x (sym lies) in
      let is_spot : y ≡ spot Place In at b = λ i. (found.0 i, found.1 i) in
      walk_to_path Place In at w turn led stand a b there_a there_b (subst (λ (z : ℕ × Place). Walks (ℕ × Place) Steps (spot Place In at a) z) is_spot walk)

  -- between ends of a plan with the joining's fields
  module _ (r : Plan) (has : HasFieldsOf w r) where
    there : (e : End) (c : Contact) → contact_at r e ≡ Some c → IsThere w (origin w e)
    there e c at_e = (c, stands_at w r has e c at_e)

    pub ends_to_flat : (a b : End) (c d : Contact) → contact_at r a ≡ Some c → contact_at r b ≡ Some d → Paths w (origin w a) (origin w b)
        → Paths (flat w vs) (origin (flat w vs) a) (origin (flat w vs) b)
    ends_to_flat a b c d at_a at_b path =
        subst (λ (x : Place). Paths (flat w vs) x (origin (flat w vs) b)) (sym (origin_deep w vs are all_stand stand r has a c at_a))
        (subst (λ (x : Place). Paths (flat w vs) (deeper vs (origin w a)) x) (sym (origin_deep w vs are all_stand stand r has b d at_b))
        (path_to_flat (origin w a) (origin w b) path))

    pub ends_from_flat : (a b : End) (c d : Contact) → contact_at r a ≡ Some c → contact_at r b ≡ Some d
        → Paths (flat w vs) (origin (flat w vs) a) (origin (flat w vs) b) → Paths w (origin w a) (origin w b)
    ends_from_flat a b c d at_a at_b path =
        path_from_flat (origin w a) (origin w b) (there a c at_a) (there b d at_b)
        (subst (λ (x : Place). Paths (flat w vs) x (deeper vs (origin w b))) (origin_deep w vs are all_stand stand r has a c at_a)
        (subst (λ (x : Place). Paths (flat w vs) (origin (flat w vs) a) x) (origin_deep w vs are all_stand stand r has b d at_b) path))

    connects_in_flat : (a b : End) → Connects w r a b → Connects (flat w vs) r a b
    connects_in_flat a b (q, v, n, asked, served, path) =
        let there = ends_to_flat a b (asks q v) (serves q v) asked served (n, path) in (q, v, there.0, asked, served, there.1)

    connects_as_flat : (a b : End) → Connects (flat w vs) r a b → Connects w r a b
    connects_as_flat a b (q, v, n, asked, served, path) =
        let there = ends_from_flat a b (asks q v) (serves q v) asked served (n, path) in (q, v, there.0, asked, served, there.1)

pub joinings_join : JoiningsJoin
joinings_join w vs r are all_stand stand is =
    record {
      parts = flat_fields.parts;
      imports = flat_fields.imports;
      outcome = flat_fields.outcome;
      weight = flat_fields.weight;
      right = is.right;
      result = flat_fields.result;
      fits = λ a b c d n at_a at_b apart path.
          (let back = ends_from_flat w vs are all_stand stand r has a b c d at_a at_b (n, path) in
          is.fits a b c d back.0 at_a at_b apart back.1);
      joints = λ a b. (
        λ in_r. connects_in_flat w vs are all_stand stand r has a b ((is.joints a b).0 in_r),
        λ connects. (is.joints a b).1 (connects_as_flat w vs are all_stand stand r has a b connects),
      );
    }
  where
    has : HasFieldsOf w r
    has = fields_of w r is

    flat_fields : HasFieldsOf (flat w vs) r
    flat_fields = fields_flat w vs are all_stand stand r has

pub flat_joins : FlatJoins
flat_joins w vs r are all_stand stand results is =
    record {
      parts = has.parts;
      imports = has.imports;
      outcome = has.outcome;
      weight = has.weight;
      right = is.right;
      result = results;
      fits = λ a b c d n at_a at_b apart path.
          (let there = ends_to_flat w vs are all_stand stand r has a b c d at_a at_b (n, path) in
          is.fits a b c d there.0 at_a at_b apart there.1);
      joints = λ a b. (
        λ in_r. connects_as_flat w vs are all_stand stand r has a b ((is.joints a b).0 in_r),
        λ connects. (is.joints a b).1 (connects_in_flat w vs are all_stand stand r has a b connects),
      );
    }
  where
    has : HasFieldsOf w r
    has = fields_back w vs are all_stand stand r results (fields_of (flat w vs) r is)
