-- Paths of joints and links are paths of ties.
use Rattle.std.specs.Prelude.{◌≡◌, ℕ, zero, suc, ◌+◌, ◌⊎◌, List, [], ◌∷◌, ◌++◌, length, Option, Some, Contains, slice_get}
use Rattle.std.proofs.Common.{refl, sym, ◌∙◌, ap, subst, arith, inl, inr}
use Rattle.gos_plan.specs.Kinds.{asks, serves}
use Rattle.gos_plan.specs.Plans.{End, Joint, Plan, Fits, AreRight}
use Rattle.gos_plan.specs.Joining.{Place, place, Wiring, JoinedWithin, Linked, Path}
use Rattle.gos_ties.specs.declared.points.Point.{Point}
use Rattle.gos_ties.specs.declared.points.Tie.{Tie}
use Rattle.gos_ties.specs.Ties.{tie, Meet}
use Rattle.gos_ties.specs.Ties as tied
use Rattle.gos_ties.proofs.RightLemmas.{meet_back}
use Rattle.gos_link.specs.declared.services.Service.{Service}
use Rattle.gos_link.specs.Linked.{wiring_of}
use Rattle.gos_link.specs.inner.Wired.{rank, parts_before, stays_before, point_in, point_of, ties_in, ties_from, AllRight, AreJoinable}
use Rattle.gos_link.proofs.ServiceLemmas.{In, in_contained, contains_in}
use Rattle.gos_link.proofs.PointLemmas.{contact_in, IsThere, spot_of, one_point, linked_point}

-- points that meet, of two lists of ties
meet_left : (ts us : List Tie) (a b : Point) → Meet ts a b → Meet (ts ++ us) a b
meet_left [] us a b m = absurd m
meet_left (t ∷ ts) us a b (inl e) = inl e
meet_left (t ∷ ts) us a b (inr (inl e)) = inr (inl e)
meet_left (t ∷ ts) us a b (inr (inr m)) = inr (inr (meet_left ts us a b m))

meet_right : (ts us : List Tie) (a b : Point) → Meet us a b → Meet (ts ++ us) a b
meet_right [] us a b m = m
meet_right (t ∷ ts) us a b m = inr (inr (meet_right ts us a b m))

meet_either : (ts us : List Tie) (a b : Point) → Meet (ts ++ us) a b → Meet ts a b ⊎ Meet us a b
meet_either [] us a b m = inr m
meet_either (t ∷ ts) us a b (inl e) = inl (inl e)
meet_either (t ∷ ts) us a b (inr (inl e)) = inl (inr (inl e))
meet_either (t ∷ ts) us a b (inr (inr m)) = elim (meet_either ts us a b m) [ inl h ↦ inl (inr (inr h)) | inr h ↦ inr h ]

-- points meet where a joint's ends lie
abbrev Turned : (End → Point) → Joint → Point → Point → Type 0
Turned f j a b = ((f j.asking ≡ a) × (f j.serving ≡ b)) ⊎ ((f j.asking ≡ b) × (f j.serving ≡ a))

module _ (ss : List Service) (root : ℕ) where
  meet_joint : (k P I : ℕ) (js : List Joint) (a b : Point) → Meet (ties_in ss root k P I js) a b → (j : Joint) × In js j × Turned (point_in ss root k P I) j a b
  meet_joint k P I [] a b m = absurd m
  meet_joint k P I (j ∷ js) a b (inl e) = (j, inl refl, inl (ap (λ (t : Tie). t.one) e, ap (λ (t : Tie). t.other) e))
  meet_joint k P I (j ∷ js) a b (inr (inl e)) = (j, inl refl, inr (ap (λ (t : Tie). t.one) e, ap (λ (t : Tie). t.other) e))
  meet_joint k P I (j ∷ js) a b (inr (inr m)) = let (i, h, t) = meet_joint k P I js a b m in (i, inr h, t)

  joint_meet : (k P I : ℕ) (js : List Joint) (j : Joint) → In js j → Meet (ties_in ss root k P I js) (point_in ss root k P I j.asking) (point_in ss root k P I j.serving)
  joint_meet k P I [] j h = absurd h
  joint_meet k P I (i ∷ js) j (inl e) = inl (λ t. tie (point_in ss root k P I (e t).asking) (point_in ss root k P I (e t).serving))
  joint_meet k P I (i ∷ js) j (inr h) = inr (inr (joint_meet k P I js j h))

  record MeetsAt (k P I : ℕ) (qs : List Plan) (a b : Point) : Type 0 where
    plan : ℕ
    of : Plan
    is : slice_get qs plan ≡ Some of
    joint : Joint
    has : In of.joints joint
    turned : Turned (point_in ss root (k + plan) (P + parts_before qs plan) (I + stays_before ss k qs plan)) joint a b

  same_points : (k l P Q I J : ℕ) → k ≡ l → P ≡ Q → I ≡ J → point_in ss root k P I ≡ point_in ss root l Q J
  same_points k l P Q I J e f g = λ t. point_in ss root (e t) (f t) (g t)

  meets_at : (k P I : ℕ) (qs : List Plan) (a b : Point) → Meet (ties_from ss root k P I qs) a b → MeetsAt k P I qs a b
  meets_at k P I [] a b m = absurd m
  meets_at k P I (q ∷ qs) a b m =
      elim (meet_either (ties_in ss root k P I q.joints) (ties_from ss root (k + 1) (P + length q.parts) (I + rank ss k (length q.imports)) qs) a b m) [
        | inl h ↦
            (let (j, i, t) = meet_joint k P I q.joints a b h in
            record {
              plan = 0;
              of = q;
              is = refl;
              joint = j;
              has = i;
              turned = subst (λ (f : End → Point). Turned f j a b) (same_points k (k + 0) P (P + 0) I (I + 0) (omega arith) (omega arith) (omega arith)) t;
            })
        | inr h ↦
            (let r = meets_at (k + 1) (P + length q.parts) (I + rank ss k (length q.imports)) qs a b h in
            record {
              plan = suc r.plan;
              of = r.of;
              is = r.is;
              joint = r.joint;
              has = r.has;
              turned =
                  subst (λ (f : End → Point). Turned f r.joint a b)
                  (same_points ((k + 1) + r.plan) (k + suc r.plan) ((P + length q.parts) + parts_before qs r.plan) (P + (length q.parts + parts_before qs r.plan))
                  ((I + rank ss k (length q.imports)) + stays_before ss (k + 1) qs r.plan) (I + (rank ss k (length q.imports) + stays_before ss (k + 1) qs r.plan))
                  (omega arith) (omega arith) (omega arith))
                  r.turned;
            })
      ]

  joints_meet : (k P I : ℕ) (qs : List Plan) (n : ℕ) (q : Plan) (j : Joint) → slice_get qs n ≡ Some q → In q.joints j
      → Meet (ties_from ss root k P I qs) (point_in ss root (k + n) (P + parts_before qs n) (I + stays_before ss k qs n) j.asking)
      (point_in ss root (k + n) (P + parts_before qs n) (I + stays_before ss k qs n) j.serving)
  joints_meet k P I [] n q j e h = absurd (cc e)
  joints_meet k P I (p ∷ qs) zero q j e h =
      let same : p ≡ q = cc e in
      let here : In p.joints j = subst (λ (r : Plan). In r.joints j) (sym same) h in
      let f = same_points k (k + 0) P (P + 0) I (I + 0) (omega arith) (omega arith) (omega arith) in
      meet_left (ties_in ss root k P I p.joints) (ties_from ss root (k + 1) (P + length p.parts) (I + rank ss k (length p.imports)) qs) _ _
      (subst (λ (g : End → Point). Meet (ties_in ss root k P I p.joints) (g j.asking) (g j.serving)) f (joint_meet k P I p.joints j here))
  joints_meet k P I (p ∷ qs) (suc n) q j e h =
      let f = same_points ((k + 1) + n) (k + suc n) ((P + length p.parts) + parts_before qs n) (P + (length p.parts + parts_before qs n))
      ((I + rank ss k (length p.imports)) + stays_before ss (k + 1) qs n) (I + (rank ss k (length p.imports) + stays_before ss (k + 1) qs n))
      (omega arith) (omega arith) (omega arith) in
      meet_right (ties_in ss root k P I p.joints) (ties_from ss root (k + 1) (P + length p.parts) (I + rank ss k (length p.imports)) qs) _ _
      (subst (λ (g : End → Point). Meet (ties_from ss root (k + 1) (P + length p.parts) (I + rank ss k (length p.imports)) qs) (g j.asking) (g j.serving)) f
      (joints_meet (k + 1) (P + length p.parts) (I + rank ss k (length p.imports)) qs n q j e h))

  at_zero : (ps : List Plan) (n : ℕ) → point_in ss root (0 + n) (0 + parts_before ps n) (0 + stays_before ss 0 ps n) ≡ point_of ps ss root n
  at_zero ps n = same_points (0 + n) n (0 + parts_before ps n) (parts_before ps n) (0 + stays_before ss 0 ps n) (stays_before ss 0 ps n) (omega arith) (omega arith) (omega arith)

-- the ends of joints that are right have handshakes
pub right_fits : (p : Plan) (before js : List Joint) (j : Joint) → AreRight p before js → In js j → Fits p j
right_fits p before [] j r h = absurd h
right_fits p before (x ∷ xs) j r (inl e) = subst (λ (y : Joint). Fits p y) e r.0.0
right_fits p before (x ∷ xs) j r (inr h) = right_fits p (x ∷ before) xs j r.1 h

path_then : (w : Wiring) (n : ℕ) (a b c : Place) → Path w n a b → (JoinedWithin w b c ⊎ Linked w b c) → Path w (suc n) a c
path_then w zero a b c e s = (c, subst (λ (x : Place). JoinedWithin w x c ⊎ Linked w x c) (sym e) s, refl)
path_then w (suc n) a b c (d, s, p) t = (d, s, path_then w n d b c p t)

module _ (ps : List Plan) (ss : List Service) (root : ℕ) (known : AreJoinable ps ss root) (right : AllRight ps) where
  -- a path of joints and links is one of ties
  step_point : (a b : Place) → JoinedWithin (wiring_of ps ss root) a b ⊎ Linked (wiring_of ps ss root) a b
      → (spot_of ps ss root a ≡ spot_of ps ss root b) ⊎ Meet (ties_from ss root 0 0 0 ps) (spot_of ps ss root a) (spot_of ps ss root b)
  step_point a b (inr l) = inl (linked_point ps ss root known a b l)
  step_point a b (inl (p, j, plans, is, has, ways)) =
      let m = joints_meet ss root 0 0 0 ps a.plan p j is (in_contained p.joints j has) in
      let met : Meet (ties_from ss root 0 0 0 ps) (point_of ps ss root a.plan j.asking) (point_of ps ss root a.plan j.serving) =
      subst (λ (f : End → Point). Meet (ties_from ss root 0 0 0 ps) (f j.asking) (f j.serving)) (at_zero ss root ps a.plan) m
      in
      elim ways [
        | inl (e, f) ↦
            inr (subst (λ (x : End). Meet (ties_from ss root 0 0 0 ps) (point_of ps ss root a.plan x) (spot_of ps ss root b)) (sym e)
            (subst (λ (x : Place). Meet (ties_from ss root 0 0 0 ps) (point_of ps ss root a.plan j.asking) (spot_of ps ss root x))
            (λ t. place (plans t) (sym f t)) met))
        | inr (e, f) ↦
            inr (subst (λ (x : End). Meet (ties_from ss root 0 0 0 ps) (point_of ps ss root a.plan x) (spot_of ps ss root b)) (sym e)
            (subst (λ (x : Place). Meet (ties_from ss root 0 0 0 ps) (point_of ps ss root a.plan j.serving) (spot_of ps ss root x))
            (λ t. place (plans t) (sym f t)) (meet_back (ties_from ss root 0 0 0 ps) (point_of ps ss root a.plan j.asking) (point_of ps ss root a.plan j.serving) met)))
      ]

  pub path_tied : (n : ℕ) (a b : Place) → Path (wiring_of ps ss root) n a b → tied.Path (ties_from ss root 0 0 0 ps) (spot_of ps ss root a) (spot_of ps ss root b)
  path_tied zero a b e = subst (λ (x : Place). tied.Path (ties_from ss root 0 0 0 ps) (spot_of ps ss root a) (spot_of ps ss root x)) e (tied.here (spot_of ps ss root a))
  path_tied (suc n) a b (c, s, p) =
      let rest = path_tied n c b p in
      elim (step_point a c s) [
        | inl e ↦ subst (λ (q : Point). tied.Path (ties_from ss root 0 0 0 ps) q (spot_of ps ss root b)) (sym e) rest
        | inr m ↦ tied.along (spot_of ps ss root a) (spot_of ps ss root c) (spot_of ps ss root b) m rest
      ]

  -- and a path of ties is one of joints and links
  record Reached (a : Place) (q : Point) : Type 0 where
    to : Place
    there : IsThere ps to
    at : spot_of ps ss root to ≡ q
    steps : ℕ
    path : Path (wiring_of ps ss root) steps a to

  across : (a x z : Place) (q : Point) (n : ℕ) → Path (wiring_of ps ss root) n a x → IsThere ps x → IsThere ps z → IsThere ps x
      → spot_of ps ss root x ≡ spot_of ps ss root z → (n : ℕ) × Path (wiring_of ps ss root) n a z
  across a x z q n path there_x there_z again same =
      elim (one_point ps ss root known x z there_x there_z same) [
        | inl e ↦ (n, subst (λ (y : Place). Path (wiring_of ps ss root) n a y) e path)
        | inr l ↦ (suc n, path_then (wiring_of ps ss root) n a x z path (inr l))
      ]

  one_tie : (a : Place) (q b : Point) → Reached a q → Meet (ties_from ss root 0 0 0 ps) q b → Reached a b
  one_tie a q b r m = by_turn turned
    where
      found : MeetsAt ss root 0 0 0 ps q b
      found = meets_at ss root 0 0 0 ps q b m

      j : Joint
      j = found.joint

      turned : Turned (point_of ps ss root found.plan) j q b
      turned = subst (λ (f : End → Point). Turned f j q b) (at_zero ss root ps found.plan) found.turned

      fits : Fits found.of j
      fits = right_fits found.of [] found.of.joints j (right found.plan found.of found.is) found.has

      asking_there : IsThere ps (place found.plan j.asking)
      asking_there = let (u, v, one, other) = fits in (asks u v, ap (λ (o : Option Plan). contact_in o j.asking) found.is ∙ one)

      serving_there : IsThere ps (place found.plan j.serving)
      serving_there = let (u, v, one, other) = fits in (serves u v, ap (λ (o : Option Plan). contact_in o j.serving) found.is ∙ other)

      has : Contains found.of.joints j
      has = contains_in found.of.joints j found.has

      by_turn : Turned (point_of ps ss root found.plan) j q b → Reached a b
      by_turn (inl (e, f)) =
          let (n, path) = across a r.to (place found.plan j.asking) q r.steps r.path r.there asking_there r.there (r.at ∙ sym e) in
          record {
            to = place found.plan j.serving;
            there = serving_there;
            at = f;
            steps = suc n;
            path = path_then (wiring_of ps ss root) n a (place found.plan j.asking) (place found.plan j.serving) path (inl (found.of, j, refl, found.is, has, inl (refl, refl)));
          }
      by_turn (inr (e, f)) =
          let (n, path) = across a r.to (place found.plan j.serving) q r.steps r.path r.there serving_there r.there (r.at ∙ sym f) in
          record {
            to = place found.plan j.asking;
            there = asking_there;
            at = e;
            steps = suc n;
            path = path_then (wiring_of ps ss root) n a (place found.plan j.serving) (place found.plan j.asking) path (inl (found.of, j, refl, found.is, has, inr (refl, refl)));
          }

  all_ties : (a : Place) (q b : Point) → Reached a q → tied.Path (ties_from ss root 0 0 0 ps) q b → Reached a b
  all_ties a q b r (tied.here _) = r
  all_ties a q b r (tied.along _ c _ m p) = all_ties a c b (one_tie a q c r m) p

  pub tied_path : (a b : Place) → IsThere ps a → IsThere ps b → tied.Path (ties_from ss root 0 0 0 ps) (spot_of ps ss root a) (spot_of ps ss root b)
      → (n : ℕ) × Path (wiring_of ps ss root) n a b
  tied_path a b there_a there_b p =
      let r = all_ties a (spot_of ps ss root a) (spot_of ps ss root b) (record { to = a; there = there_a; at = refl; steps = 0; path = refl }) p in
      across a r.to b (spot_of ps ss root b) r.steps r.path r.there there_b r.there r.at
