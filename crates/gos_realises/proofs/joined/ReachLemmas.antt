-- Whether a path leads from one place of a wiring to another can be told.
use Rattle.std.specs.Prelude.{◌≡◌, ℕ, zero, suc, ◌+◌, Bool, true, false, List, [], ◌∷◌, ◌++◌, ◌⊎◌, Some, Contains, slice_get}
use Rattle.std.proofs.Common.{refl, sym, ◌∙◌, ap, subst, arith, inl, inr}
use Rattle.gos_plan.specs.Plans.{End, Joint, Plan, same_end}
use Rattle.gos_plan.specs.Joining.{Place, place, Link, Wiring, JoinedWithin, Linked, Path}
use Rattle.gos_plan.proofs.JointLemmas.{same_itself, same_is}
use Rattle.gos_plan.proofs.DecidedLemmas.{Told, both}
use Rattle.gos_plan.proofs.WiringLemmas.{joined_back, place_is}

pub one_of : {A B : Type 0} → Told A → Told B → Told (A ⊎ B)
one_of (inl a) b = inl (inl a)
one_of (inr fails) (inl b) = inl (inr b)
one_of (inr fails) (inr fail) = inr (λ h. elim h [ inl a ↦ fails a | inr b ↦ fail b ])

pub told_number : (m n : ℕ) → Told (m ≡ n)
told_number zero zero = inl refl
told_number zero (suc n) = inr (λ e. omega (arith, e))
told_number (suc m) zero = inr (λ e. omega (arith, e))
told_number (suc m) (suc n) =
    elim (told_number m n) [
      | inl e ↦ inl (ap suc e)
      | inr apart ↦ inr (λ e. apart (omega (arith, e)))
    ]

pub told_end : (d e : End) → Told (d ≡ e)
told_end d e = by_test (same_end d e) refl
  where
    by_test : (b : Bool) → same_end d e ≡ b → Told (d ≡ e)
    by_test true t = inl (same_is d e t)
    by_test false t =
        inr (λ is. let other : same_end d e ≡ true = subst (λ (x : End). same_end d x ≡ true) is (same_itself d) in
        let no : true ≡ false = sym other ∙ t in cc no)

pub told_place : (a b : Place) → Told (a ≡ b)
told_place a b =
    elim (both (told_number a.plan b.plan) (told_end a.end b.end)) [
      | inl e ↦ inl (place_is a b e.0 e.1)
      | inr apart ↦ inr (λ e. apart (ap (λ (x : Place). x.plan) e, ap (λ (x : Place). x.end) e))
    ]

-- what the links of a list reach
abbrev Reach : List Link → Place → Place → Type 0
Reach [] a b = a ≡ b
Reach (t ∷ ts) a b = Reach ts a b ⊎ ((Reach ts a t.one × Reach ts t.other b) ⊎ (Reach ts a t.other × Reach ts t.one b))

told_reach : (ts : List Link) (a b : Place) → Told (Reach ts a b)
told_reach [] a b = told_place a b
told_reach (t ∷ ts) a b =
    one_of (told_reach ts a b)
    (one_of (both (told_reach ts a t.one) (told_reach ts t.other b)) (both (told_reach ts a t.other) (told_reach ts t.one b)))

reach_itself : (ts : List Link) (a : Place) → Reach ts a a
reach_itself [] a = refl
reach_itself (t ∷ ts) a = inl (reach_itself ts a)

-- a link between two places, in either order
abbrev IsBetween : Link → Place → Place → Type 0
IsBetween l a b = ((a ≡ l.one) × (b ≡ l.other)) ⊎ ((a ≡ l.other) × (b ≡ l.one))

abbrev Meets : List Link → Place → Place → Type 0
Meets [] a b = ⊥
Meets (t ∷ ts) a b = IsBetween t a b ⊎ Meets ts a b

reach_step : (ts : List Link) (a c b : Place) → Meets ts a c → Reach ts c b → Reach ts a b
reach_step [] a c b m r = absurd m
reach_step (t ∷ ts) a c b (inl (inl (e, f))) (inl r) =
    inr (inl (subst (λ (x : Place). Reach ts a x) e (reach_itself ts a), subst (λ (x : Place). Reach ts x b) f r))
reach_step (t ∷ ts) a c b (inl (inl (e, f))) (inr (inl (r, s))) = inr (inl (subst (λ (x : Place). Reach ts a x) e (reach_itself ts a), s))
reach_step (t ∷ ts) a c b (inl (inl (e, f))) (inr (inr (r, s))) = inl (subst (λ (x : Place). Reach ts x b) (sym e) s)
reach_step (t ∷ ts) a c b (inl (inr (e, f))) (inl r) =
    inr (inr (subst (λ (x : Place). Reach ts a x) e (reach_itself ts a), subst (λ (x : Place). Reach ts x b) f r))
reach_step (t ∷ ts) a c b (inl (inr (e, f))) (inr (inl (r, s))) = inl (subst (λ (x : Place). Reach ts x b) (sym e) s)
reach_step (t ∷ ts) a c b (inl (inr (e, f))) (inr (inr (r, s))) = inr (inr (subst (λ (x : Place). Reach ts a x) e (reach_itself ts a), s))
reach_step (t ∷ ts) a c b (inr m) (inl r) = inl (reach_step ts a c b m r)
reach_step (t ∷ ts) a c b (inr m) (inr (inl (r, s))) = inr (inl (reach_step ts a c t.one m r, s))
reach_step (t ∷ ts) a c b (inr m) (inr (inr (r, s))) = inr (inr (reach_step ts a c t.other m r, s))

-- paths
abbrev pub Step : Wiring → Place → Place → Type 0
Step w a b = JoinedWithin w a b ⊎ Linked w a b

abbrev pub Paths : Wiring → Place → Place → Type 0
Paths w a b = (n : ℕ) × Path w n a b

then_path : (w : Wiring) (n : ℕ) (a b c : Place) → Path w n a b → Paths w b c → Paths w a c
then_path w zero a b c e p = subst (λ (x : Place). Paths w x c) (sym e) p
then_path w (suc n) a b c (d, s, p) q = let (m, path) = then_path w n d b c p q in (suc m, (d, s, path))

pub paths_then : (w : Wiring) (a b c : Place) → Paths w a b → Paths w b c → Paths w a c
paths_then w a b c (n, p) q = then_path w n a b c p q

pub step_back : (w : Wiring) (a b : Place) → Step w a b → Step w b a
step_back w a b (inl joined) = inl (joined_back w a b joined)
step_back w a b (inr (l, has, ways)) = inr (l, has, elim ways [ inl (e, f) ↦ inr (f, e) | inr (e, f) ↦ inl (f, e) ])

path_back : (w : Wiring) (n : ℕ) (a b : Place) → Path w n a b → Paths w b a
path_back w zero a b e = (0, sym e)
path_back w (suc n) a b (c, s, p) = paths_then w b c a (path_back w n c b p) (1, (a, step_back w a c s, refl))

pub paths_back : (w : Wiring) (a b : Place) → Paths w a b → Paths w b a
paths_back w a b (n, p) = path_back w n a b p

reach_path : (w : Wiring) (ts : List Link) → ((a b : Place) → Meets ts a b → Step w a b) → (a b : Place) → Reach ts a b → Paths w a b
reach_path w [] steps a b e = (0, e)
reach_path w (t ∷ ts) steps a b (inl r) = reach_path w ts (λ c d m. steps c d (inr m)) a b r
reach_path w (t ∷ ts) steps a b (inr (inl (r, s))) =
    let less : (c d : Place) → Meets ts c d → Step w c d = λ c d m. steps c d (inr m) in
    paths_then w a t.one b (reach_path w ts less a t.one r)
    (paths_then w t.one t.other b (1, (t.other, steps t.one t.other (inl (inl (refl, refl))), refl)) (reach_path w ts less t.other b s))
reach_path w (t ∷ ts) steps a b (inr (inr (r, s))) =
    let less : (c d : Place) → Meets ts c d → Step w c d = λ c d m. steps c d (inr m) in
    paths_then w a t.other b (reach_path w ts less a t.other r)
    (paths_then w t.other t.one b (1, (t.one, steps t.other t.one (inl (inr (refl, refl))), refl)) (reach_path w ts less t.one b s))

path_reach : (w : Wiring) (ts : List Link) → ((a b : Place) → Step w a b → Meets ts a b) → (n : ℕ) (a b : Place) → Path w n a b → Reach ts a b
path_reach w ts meets zero a b e = subst (λ (x : Place). Reach ts a x) e (reach_itself ts a)
path_reach w ts meets (suc n) a b (c, s, p) = reach_step ts a c b (meets a c s) (path_reach w ts meets n c b p)

-- links of two lists
meets_front : (ts us : List Link) (a b : Place) → Meets ts a b → Meets (ts ++ us) a b
meets_front [] us a b m = absurd m
meets_front (t ∷ ts) us a b (inl m) = inl m
meets_front (t ∷ ts) us a b (inr m) = inr (meets_front ts us a b m)

meets_behind : (ts us : List Link) (a b : Place) → Meets us a b → Meets (ts ++ us) a b
meets_behind [] us a b m = m
meets_behind (t ∷ ts) us a b m = inr (meets_behind ts us a b m)

meets_one : (ts us : List Link) (a b : Place) → Meets (ts ++ us) a b → Meets ts a b ⊎ Meets us a b
meets_one [] us a b m = inr m
meets_one (t ∷ ts) us a b (inl m) = inl (inl m)
meets_one (t ∷ ts) us a b (inr m) = elim (meets_one ts us a b m) [ inl x ↦ inl (inr x) | inr x ↦ inr x ]

meets_of : (ts : List Link) (l : Link) (a b : Place) → Contains ts l → IsBetween l a b → Meets ts a b
meets_of [] l a b (k, small, e) ways = absurd (omega (arith, small))
meets_of (t ∷ ts) l a b (zero, small, e) ways = inl (subst (λ (x : Link). IsBetween x a b) (sym e) ways)
meets_of (t ∷ ts) l a b (suc k, small, e) ways = inr (meets_of ts l a b (k, omega (arith, small), e) ways)

met : (ts : List Link) (a b : Place) → Meets ts a b → (l : Link) × Contains ts l × IsBetween l a b
met [] a b m = absurd m
met (t ∷ ts) a b (inl ways) = (t, (0, omega arith, refl), ways)
met (t ∷ ts) a b (inr m) = let (l, (k, small, e), ways) = met ts a b m in (l, (suc k, omega (arith, small), e), ways)

abbrev joint_link : ℕ → Joint → Link
joint_link k j = record { one = place k j.asking; other = place k j.serving }

abbrev joint_links : ℕ → List Joint → List Link
joint_links k [] = []
joint_links k (j ∷ js) = joint_link k j ∷ joint_links k js

abbrev inner : ℕ → List Plan → List Link
inner k [] = []
inner k (p ∷ ps) = joint_links k p.joints ++ inner (suc k) ps

abbrev Ends : Joint → End → End → Type 0
Ends j a b = ((a ≡ j.asking) × (b ≡ j.serving)) ⊎ ((a ≡ j.serving) × (b ≡ j.asking))

between_joint : (k : ℕ) (j : Joint) (a b : Place) → a.plan ≡ k → b.plan ≡ k → Ends j a.end b.end → IsBetween (joint_link k j) a b
between_joint k j a b at_a at_b (inl (e, f)) = inl (place_is a (place k j.asking) at_a e, place_is b (place k j.serving) at_b f)
between_joint k j a b at_a at_b (inr (e, f)) = inr (place_is a (place k j.serving) at_a e, place_is b (place k j.asking) at_b f)

in_joints : (k : ℕ) (js : List Joint) (j : Joint) (a b : Place) → Contains js j → a.plan ≡ k → b.plan ≡ k → Ends j a.end b.end → Meets (joint_links k js) a b
in_joints k [] j a b (n, small, e) at_a at_b ends = absurd (omega (arith, small))
in_joints k (x ∷ js) j a b (zero, small, e) at_a at_b ends =
    inl (between_joint k x a b at_a at_b (subst (λ (y : Joint). Ends y a.end b.end) (sym e) ends))
in_joints k (x ∷ js) j a b (suc n, small, e) at_a at_b ends = inr (in_joints k js j a b (n, omega (arith, small), e) at_a at_b ends)

abbrev OfJoint : ℕ → List Joint → Place → Place → Type 0
OfJoint k js a b = (j : Joint) × (a.plan ≡ k) × (b.plan ≡ k) × Contains js j × Ends j a.end b.end

of_joints : (k : ℕ) (js : List Joint) (a b : Place) → Meets (joint_links k js) a b → OfJoint k js a b
of_joints k [] a b m = absurd m
of_joints k (x ∷ js) a b (inl (inl (e, f))) =
    (x, ap (λ (y : Place). y.plan) e, ap (λ (y : Place). y.plan) f, (0, omega arith, refl), inl (ap (λ (y : Place). y.end) e, ap (λ (y : Place). y.end) f))
of_joints k (x ∷ js) a b (inl (inr (e, f))) =
    (x, ap (λ (y : Place). y.plan) e, ap (λ (y : Place). y.plan) f, (0, omega arith, refl), inr (ap (λ (y : Place). y.end) e, ap (λ (y : Place). y.end) f))
of_joints k (x ∷ js) a b (inr m) =
    let (j, at_a, at_b, (n, small, e), ends) = of_joints k js a b m in (j, at_a, at_b, (suc n, omega (arith, small), e), ends)

in_plans : (k : ℕ) (ps : List Plan) (i : ℕ) (p : Plan) (j : Joint) (a b : Place) → slice_get ps i ≡ Some p → Contains p.joints j
    → a.plan ≡ k + i → b.plan ≡ k + i → Ends j a.end b.end → Meets (inner k ps) a b
in_plans k [] i p j a b is has at_a at_b ends = absurd (cc is)
in_plans k (q ∷ ps) zero p j a b is has at_a at_b ends =
    let same : q ≡ p = cc is in
    meets_front (joint_links k q.joints) (inner (suc k) ps) a b
    (in_joints k q.joints j a b (subst (λ (x : Plan). Contains x.joints j) (sym same) has) (omega (arith, at_a)) (omega (arith, at_b)) ends)
in_plans k (q ∷ ps) (suc i) p j a b is has at_a at_b ends =
    meets_behind (joint_links k q.joints) (inner (suc k) ps) a b
    (in_plans (suc k) ps i p j a b is has (omega (arith, at_a)) (omega (arith, at_b)) ends)

abbrev OfPlan : ℕ → List Plan → Place → Place → Type 0
OfPlan k ps a b =
    (i : ℕ) × (p : Plan) × (j : Joint) × (a.plan ≡ k + i) × (b.plan ≡ k + i) × (slice_get ps i ≡ Some p) × Contains p.joints j × Ends j a.end b.end

of_plans : (k : ℕ) (ps : List Plan) (a b : Place) → Meets (inner k ps) a b → OfPlan k ps a b
of_plans k [] a b m = absurd m
of_plans k (q ∷ ps) a b m =
    elim (meets_one (joint_links k q.joints) (inner (suc k) ps) a b m) [
      | inl x ↦ at_first (of_joints k q.joints a b x)
      | inr x ↦ at_rest (of_plans (suc k) ps a b x)
    ]
  where
    at_first : OfJoint k q.joints a b → OfPlan k (q ∷ ps) a b
    at_first (j, at_a, at_b, has, ends) = (0, q, j, omega (arith, at_a), omega (arith, at_b), refl, has, ends)

    at_rest : OfPlan (suc k) ps a b → OfPlan k (q ∷ ps) a b
    at_rest (i, p, j, at_a, at_b, is, has, ends) = (suc i, p, j, omega (arith, at_a), omega (arith, at_b), is, has, ends)

-- all steps of a wiring, as links
abbrev all_steps : Wiring → List Link
all_steps w = w.links ++ inner 0 w.plans

step_meets : (w : Wiring) (a b : Place) → Step w a b → Meets (all_steps w) a b
step_meets w a b (inl (p, j, same, is, has, ways)) =
    meets_behind w.links (inner 0 w.plans) a b
    (in_plans 0 w.plans a.plan p j a b is has (omega arith) (let e : b.plan ≡ a.plan = sym same in omega (arith, e)) ways)
step_meets w a b (inr (l, has, ways)) = meets_front w.links (inner 0 w.plans) a b (meets_of w.links l a b has ways)

meets_step : (w : Wiring) (a b : Place) → Meets (all_steps w) a b → Step w a b
meets_step w a b m = by_part (meets_one w.links (inner 0 w.plans) a b m)
  where
    by_part : Meets w.links a b ⊎ Meets (inner 0 w.plans) a b → Step w a b
    by_part (inl x) = inr (met w.links a b x)
    by_part (inr x) =
        let (i, p, j, at_a, at_b, is, has, ends) = of_plans 0 w.plans a b x in
        let same : a.plan ≡ b.plan = omega (arith, at_a, at_b) in
        let number : i ≡ a.plan = omega (arith, at_a) in
        inl (p, j, same, subst (λ (n : ℕ). slice_get w.plans n ≡ Some p) number is, has, ends)

-- whether there is a path can be told
pub told_path : (w : Wiring) (a b : Place) → Told (Paths w a b)
told_path w a b =
    elim (told_reach (all_steps w) a b) [
      | inl r ↦ inl (reach_path w (all_steps w) (meets_step w) a b r)
      | inr fails ↦ inr (λ p. fails (path_reach w (all_steps w) (step_meets w) p.0 a b p.1))
    ]
