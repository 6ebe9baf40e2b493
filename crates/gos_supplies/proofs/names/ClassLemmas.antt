-- Classes of places: where each joint and each link stays within a class, a path does.
use Rattle.std.specs.Prelude.{◌≡◌, ℕ, zero, suc, ◌<◌, List, [], ◌∷◌, ◌⊎◌, length, Contains, Some, slice_get}
use Rattle.std.proofs.Common.{sym, ◌∙◌, ap, subst, arith, inl, inr}
use Rattle.gos_plan.specs.Plans.{End, Joint, Plan}
use Rattle.gos_plan.specs.Joining.{Place, Link, Wiring, JoinedWithin, Linked, Path}

-- the class of an end of the plan of this number
abbrev pub Classes : Type 0
Classes = ℕ → End → ℕ

abbrev pub class : Classes → Place → ℕ
class f a = f a.plan a.end

-- each joint, each joint of these plans, and each link stays within a class
abbrev pub JointsStay : (End → ℕ) → List Joint → Type 0
JointsStay f [] = Unit {0}
JointsStay f (j ∷ js) = (f j.asking ≡ f j.serving) × JointsStay f js

abbrev pub PlansStay : Classes → List Plan → Type 0
PlansStay f [] = Unit {0}
PlansStay f (p ∷ ps) = JointsStay (f 0) p.joints × PlansStay (λ k. f (suc k)) ps

abbrev pub LinksStay : Classes → List Link → Type 0
LinksStay f [] = Unit {0}
LinksStay f (l ∷ ls) = (class f l.one ≡ class f l.other) × LinksStay f ls

joint_stays : (f : End → ℕ) (js : List Joint) (j : Joint) → JointsStay f js → Contains js j → f j.asking ≡ f j.serving
joint_stays f [] j stays (n, m, e) = absurd (omega (arith, m))
joint_stays f (i ∷ js) j stays (zero, m, e) = subst (λ (x : Joint). f x.asking ≡ f x.serving) e stays.0
joint_stays f (i ∷ js) j stays (suc n, m, e) =
    joint_stays f js j stays.1 (n, (let l : suc n < suc (length js) = m in omega (arith, l)), e)

plan_stays : (f : Classes) (k : ℕ) (ps : List Plan) (p : Plan) (j : Joint)
    → PlansStay f ps → slice_get ps k ≡ Some p → Contains p.joints j → f k j.asking ≡ f k j.serving
plan_stays f k [] p j stays is has = absurd (cc is)
plan_stays f zero (q ∷ ps) p j stays is has =
    let same : q ≡ p = cc is in joint_stays (f 0) q.joints j stays.0 (subst (λ (x : Plan). Contains x.joints j) (sym same) has)
plan_stays f (suc k) (q ∷ ps) p j stays is has = plan_stays (λ n. f (suc n)) k ps p j stays.1 is has

link_stays : (f : Classes) (ls : List Link) (l : Link) → LinksStay f ls → Contains ls l → class f l.one ≡ class f l.other
link_stays f [] l stays (n, m, e) = absurd (omega (arith, m))
link_stays f (i ∷ ls) l stays (zero, m, e) = subst (λ (x : Link). class f x.one ≡ class f x.other) e stays.0
link_stays f (i ∷ ls) l stays (suc n, m, e) =
    link_stays f ls l stays.1 (n, (let t : suc n < suc (length ls) = m in omega (arith, t)), e)

module _ (w : Wiring) (f : Classes) (plans : PlansStay f w.plans) (links : LinksStay f w.links) where
  step_stays : (a b : Place) → JoinedWithin w a b ⊎ Linked w a b → class f a ≡ class f b
  step_stays a b (inl (p, j, same, is, has, inl (one, other))) =
      ap (f a.plan) one ∙ (plan_stays f a.plan w.plans p j plans is has ∙ (ap (f a.plan) (sym other) ∙ ap (λ k. f k b.end) same))
  step_stays a b (inl (p, j, same, is, has, inr (one, other))) =
      ap (f a.plan) one ∙ (sym (plan_stays f a.plan w.plans p j plans is has) ∙ (ap (f a.plan) (sym other) ∙ ap (λ k. f k b.end) same))
  step_stays a b (inr (l, has, inl (one, other))) = ap (class f) one ∙ (link_stays f w.links l links has ∙ ap (class f) (sym other))
  step_stays a b (inr (l, has, inr (one, other))) = ap (class f) one ∙ (sym (link_stays f w.links l links has) ∙ ap (class f) (sym other))

  pub path_stays : (n : ℕ) (a b : Place) → Path w n a b → class f a ≡ class f b
  path_stays zero a b e = ap (class f) e
  path_stays (suc n) a b (c, step, path) = step_stays a c step ∙ path_stays n c b path
