-- The joints that are found are right, one after another: each fits, and none of its ends stands in one before it.
--
-- Read first: JointLemmas, ThinLemmas. An end is in one tie, so that its joint is found once; and no two ends have one
-- far end.
use Rattle.std.specs.Prelude.{◌≡◌, ℕ, ◌≤◌, ◌⊎◌, Bool, true, false, IsTrue, List, [], ◌∷◌, ◌++◌, Option, Some, None, map, if◌then◌else◌}
use Rattle.std.proofs.Common.{refl, ap, sym, ◌∙◌, subst, arith, inl, inr}
use Rattle.gos_types.proofs.RoleLemmas.{ask_is_not_serve}
use Rattle.gos_plan.specs.Kinds.{Contact, asks, serves}
use Rattle.gos_plan.specs.Plans.{End, Joint, Plan, contact_at, is_free, Fits, AreRight, IsRight}
use Rattle.gos_plan.specs.Seen.{SeenPlan, joint_of, plan_of}
use Rattle.gos_plan.proofs.JointLemmas.{free_of_both}
use Rattle.gos_ties.specs.declared.points.Point.{Point}
use Rattle.gos_ties.specs.declared.points.Tie.{Tie}
use Rattle.gos_ties.specs.declared.joints.Tables.{Tables}
use Rattle.gos_ties.specs.Ties.{at, Meet, Path, here, along, Connects, joint, Has, end_at}
use Rattle.gos_ties.specs.inner.Joined.{far_at}
use Rattle.gos_ties.specs.inner.Found.{bare, code, IsTied, do_fit, found_from, found, all_found, far_by, AreTables}
use Rattle.gos_ties.specs.Counted.{once, meetings, IsThin}
use Rattle.gos_ties.specs.Order.{points_of}
use Rattle.gos_ties.proofs.CodeLemmas.{codes_tell, path_leads}
use Rattle.gos_ties.proofs.JointLemmas.{end_tells, at_end, from_ends, all_at, role_or, not_both, path_ends, joints_found}
use Rattle.gos_ties.proofs.PlanLemmas.{bare_connects}
use Rattle.gos_ties.proofs.ThinLemmas.{occurs, once_itself}

-- paths lead back
pub meet_back : (ts : List Tie) (a b : Point) → Meet ts a b → Meet ts b a
meet_back [] a b m = m
meet_back (t ∷ ts) a b (inl e) = inr (inl e)
meet_back (t ∷ ts) a b (inr (inl e)) = inl e
meet_back (t ∷ ts) a b (inr (inr m)) = inr (inr (meet_back ts a b m))

path_on : (ts : List Tie) (a b c : Point) → Path ts a b → Path ts b c → Path ts a c
path_on ts a b c (here _) q = q
path_on ts a b c (along _ d _ m p) q = along a d c m (path_on ts d b c p q)

path_back : (ts : List Tie) (a b : Point) → Path ts a b → Path ts b a
path_back ts a b (here _) = here a
path_back ts a b (along _ c _ m p) = path_on ts b c a (path_back ts c b p) (along c a a (meet_back ts a c m) (here a))

-- the joints that are found at points
abbrev pub at_points : Plan → (Point → Point) → List Point → List Joint
at_points p far [] = []
at_points p far (q ∷ qs) = found p far q ++ at_points p far qs

pub all_at_points : (p : Plan) (far : Point → Point) (ts : List Tie) → all_found p far ts ≡ at_points p far (points_of ts)
all_at_points p far [] = refl
all_at_points p far (t ∷ ts) = ap (λ (js : List Joint). found p far t.one ++ (found p far t.other ++ js)) (all_at_points p far ts)

pub points_occur : (q : Point) (ts : List Tie) → occurs q (points_of ts) ≡ meetings q ts
points_occur q [] = refl
points_occur q (t ∷ ts) = let h = points_occur q ts in omega (arith, h)

-- all of a list
abbrev Each : (Point → Type 0) → List Point → Type 0
Each P [] = Unit {0}
Each P (q ∷ qs) = P q × Each P qs

each_more : (t : Tie) (ts : List Tie) (qs : List Point) → Each (IsTied ts) qs → Each (IsTied (t ∷ ts)) qs
each_more t ts [] h = tt
each_more t ts (q ∷ qs) (i, h) = (inr (inr i), each_more t ts qs h)

each_tied : (ts : List Tie) → Each (IsTied ts) (points_of ts)
each_tied [] = tt
each_tied (t ∷ ts) = (inl refl, (inr (inl refl), each_more t ts (points_of ts) (each_tied ts)))

-- at a point a joint is found, or none
pub from_cases : (p : Plan) (x y : Option End) → (found_from p x y ≡ []) ⊎ ((a : End) × (b : End) × (found_from p x y ≡ joint a b ∷ []))
from_cases p None y = inl refl
from_cases p (Some a) None = inl refl
from_cases p (Some a) (Some b) = by (do_fit (contact_at p a) (contact_at p b))
  where
    by : (u : Bool) → ((if u then joint a b ∷ [] else []) ≡ []) ⊎ ((c : End) × (d : End) × ((if u then joint a b ∷ [] else []) ≡ joint c d ∷ []))
    by true = inr (a, b, refl)
    by false = inl refl

free_all : (e : End) (js : List Joint) → ((k : Joint) → Has js k → (e ≡ k.asking → ⊥) × (e ≡ k.serving → ⊥)) → IsTrue (is_free e js)
free_all e [] h = refl
free_all e (k ∷ js) h = let (one, other) = h k (inl refl) in free_of_both e k js one other (free_all e js (λ l i. h l (inr i)))

-- each of a list is found, and the point at which it was isn't among those that come
abbrev AreDone : List Tie → Plan → List Point → List Joint → Type 0
AreDone ts p qs before = (k : Joint) → Has before k → Connects ts p k.asking k.serving × (occurs (at k.asking) qs ≡ 0)

-- two ends have no one far end
abbrev AreApart : List Tie → Plan → Type 0
AreApart ts p = (a b c : End) → Connects ts p a b → Connects ts p c b → a ≡ c

asks_serves : (ts : List Tie) (p : Plan) (a b c d : End) → Connects ts p a b → Connects ts p c d → a ≡ d → ⊥
asks_serves ts p a b c d (q, v, one, u, path) (r, w, x, other, way) e =
    let there : contact_at p a ≡ Some (serves r w) = subst (λ (f : End). contact_at p f ≡ Some (serves r w)) (sym e) other in
    ask_is_not_serve (ap (λ (o : Option Contact). role_or o) (sym one ∙ there))

-- with a joint that is found at the first of points
right_one : (ts : List Tie) (p r : Plan) (far : Point → Point) (q : Point) (qs : List Point) (before : List Joint) (a b : End)
    → AreApart ts r → ((c : End) → occurs (at c) (q ∷ qs) ≤ 1) → AreDone ts r (q ∷ qs) before → Has (found p far q) (joint a b)
    → Connects ts r a b → ((js : List Joint) → AreDone ts r qs js → AreRight r js (at_points p far qs))
    → AreRight r before (joint a b ∷ at_points p far qs)
right_one ts p r far q qs before a b apart few done stands known rest =
    ((fits, free_all a before asking_new, free_all b before serving_new), rest (joint a b ∷ before) done_more)
  where
    fits : Fits r (joint a b)
    fits = let (n, v, one, other, path) = known in (n, v, one, other)

    at_a : q ≡ at a
    at_a = end_tells q a (from_ends p (end_at q) (end_at (far q)) a b stands).0

    once_here : once (at a) q ≡ 1
    once_here = subst (λ (x : Point). once (at a) x ≡ 1) (sym at_a) (once_itself (at a))

    not_before : (k : Joint) → Has before k → a ≡ k.asking → ⊥
    not_before k i e =
        let gone : occurs (at a) (q ∷ qs) ≡ 0 = subst (λ (f : End). occurs (at f) (q ∷ qs) ≡ 0) (sym e) (done k i).1 in
        omega (arith, gone, once_here)

    asking_new : (k : Joint) → Has before k → (a ≡ k.asking → ⊥) × (a ≡ k.serving → ⊥)
    asking_new k i = (not_before k i, asks_serves ts r a b k.asking k.serving known (done k i).0)

    serving_new : (k : Joint) → Has before k → (b ≡ k.asking → ⊥) × (b ≡ k.serving → ⊥)
    serving_new k i = (
      (λ e. asks_serves ts r k.asking k.serving a b (done k i).0 known (sym e)),
      (λ e. not_before k i (apart a b k.asking known (subst (λ (f : End). Connects ts r k.asking f) (sym e) (done k i).0))),
    )

    done_more : AreDone ts r qs (joint a b ∷ before)
    done_more k (inl e) =
        subst (λ (l : Joint). Connects ts r l.asking l.serving × (occurs (at l.asking) qs ≡ 0)) e
        (known, (let h = few a in omega (arith, h, once_here)))
    done_more k (inr i) = let (there, gone) = done k i in (there, omega (arith, gone))

right_points : (ts : List Tie) (p r : Plan) (far : Point → Point)
    → ((q : Point) (a b : End) → IsTied ts q → Has (found p far q) (joint a b) → Connects ts r a b) → AreApart ts r → (qs : List Point)
    → Each (IsTied ts) qs → ((a : End) → occurs (at a) qs ≤ 1) → (before : List Joint) → AreDone ts r qs before
    → AreRight r before (at_points p far qs)
right_points ts p r far sound apart [] tied few before done = tt
right_points ts p r far sound apart (q ∷ qs) (here_tied, tied) few before done =
    let rest : (js : List Joint) → AreDone ts r qs js → AreRight r js (at_points p far qs) =
    right_points ts p r far sound apart qs tied (λ a. let h = few a in omega (arith, h))
    in
    elim (from_cases p (end_at q) (end_at (far q))) [
      | inl none ↦
          subst (λ (js : List Joint). AreRight r before (js ++ at_points p far qs)) (sym none)
          (rest before (λ k i. let (known, gone) = done k i in (known, omega (arith, gone))))
      | inr one ↦ (let (a, b, is) = one in
          let stands : Has (found p far q) (joint a b) = subst (λ (js : List Joint). Has js (joint a b)) (sym is) (inl refl) in
          subst (λ (js : List Joint). AreRight r before (js ++ at_points p far qs)) (sym is)
          (right_one ts p r far q qs before a b apart few done stands (sound q a b here_tied stands) rest))
    ]

-- the far end of an end that serves is one
apart_ends : (ts : List Tie) (t : Tables) (p : Plan) → AreTables ts t → AreApart ts p
apart_ends ts t p tables a b c one other =
    let (n, v, asks_a, serves_b, path) = one in
    let (m, w, asks_c, serves_b', way) = other in
    let at_one = far_end a n v asks_a serves_b path in
    let at_other = far_end c m w asks_c serves_b' way in
    let tied_a = (tied_ends a n v asks_a serves_b path).0 in
    let tied_c = (tied_ends c m w asks_c serves_b' way).0 in
    let same : at a ≡ at c =
    codes_tell t.numbers.points.keys (at a) (at c) (tables.numbered (at a) tied_a) (tables.numbered (at c) tied_c) (at_one ∙ sym at_other)
    in
    some_one a c (sym (at_end a) ∙ (ap (λ (x : Point). end_at x) same ∙ at_end c))
  where
    some_one : (x y : End) → Some x ≡ Some y → x ≡ y
    some_one x y e = cc

    tied_ends : (x : End) (q v : ℕ) → contact_at p x ≡ Some (asks q v) → contact_at p b ≡ Some (serves q v) → Path ts (at x) (at b)
        → IsTied ts (at x) × IsTied ts (at b)
    tied_ends x q v asks_x serves_b path = elim (path_ends ts (at x) (at b) path) [ inl e ↦ absurd (not_both p x b q v asks_x serves_b e) | inr tied ↦ tied ]

    far_end : (x : End) (q v : ℕ) → contact_at p x ≡ Some (asks q v) → contact_at p b ≡ Some (serves q v) → Path ts (at x) (at b)
        → code t.numbers.points.keys (at x) ≡ far_at t.far.items (code t.numbers.points.keys (at b))
    far_end x q v asks_x serves_b path =
        let (tied_x, tied_b) = tied_ends x q v asks_x serves_b path in
        elim
        (tables.far.only (code t.numbers.points.keys (at b)) (code t.numbers.points.keys (at x)) (tables.free (at b) b tied_b (at_end b)) (tables.free (at x) x tied_x (at_end x))
        (path_leads t.numbers.points.keys ts (at b) (at x) (path_back ts (at x) (at b) path))) [
          | inl e ↦
              absurd
              (not_both p x b q v asks_x serves_b
              (codes_tell t.numbers.points.keys (at x) (at b) (tables.numbered (at x) tied_x) (tables.numbered (at b) tied_b) e))
          | inr e ↦ e
        ]

pub right_joints : (s : SeenPlan) (ts : List Tie) (t : Tables) → IsThin ts → AreTables ts t
    → map joint_of s.joints ≡ all_found (bare s.imports s.outcome s.parts) (far_by t) ts → IsRight (plan_of s)
right_joints s ts t thin tables is =
    let p : Plan = bare s.imports s.outcome s.parts in
    let sound : (q : Point) (a b : End) → IsTied ts q → Has (found p (far_by t) q) (joint a b) → Connects ts (plan_of s) a b =
    (λ q a b tied h. bare_connects s ts a b
    ((joints_found ts t.far.items t.numbers.points.keys p tables.numbered tables.far tables.free a b).0
    (all_at p (far_by t) ts (joint a b) q tied h)))
    in
    subst (λ (js : List Joint). AreRight (plan_of s) [] js) (sym (is ∙ all_at_points p (far_by t) ts))
    (right_points ts p (plan_of s) (far_by t) sound (apart_ends ts t (plan_of s) tables) (points_of ts) (each_tied ts)
    (λ a. let all = points_occur (at a) ts in let few = thin.ends (at a) a (at_end a) in omega (arith, all, few)) [] (λ k i. absurd i))
