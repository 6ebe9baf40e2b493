-- What the joints of plans and the links between them keep, a path of them keeps.
use Rattle.std.specs.Prelude.{slice_get}
use Rattle.std.proofs.Common.{◌≡◌, ℕ, zero, suc, Some, Contains, inl, inr, sym, ◌∙◌, ap}
use Rattle.gos_plan.specs.Plans.{End, Joint, Plan}
use Rattle.gos_plan.specs.Joining.{Place, Link, Wiring, JoinedWithin, Linked, Path}

pub joint_keeps : (X : Type 0) (f : ℕ → End → X) (w : Wiring)
    → ((k : ℕ) (p : Plan) → slice_get w.plans k ≡ Some p → (j : Joint) → Contains p.joints j → f k j.asking ≡ f k j.serving)
    → (a b : Place) → JoinedWithin w a b → f a.plan a.end ≡ f b.plan b.end
joint_keeps X f w keeps a b (p, j, same, is, has, inl (at_a, at_b)) =
    ap (f a.plan) at_a ∙ (keeps a.plan p is j has ∙ (ap (f a.plan) (sym at_b) ∙ ap (λ k. f k b.end) same))
joint_keeps X f w keeps a b (p, j, same, is, has, inr (at_a, at_b)) =
    ap (f a.plan) at_a ∙ (sym (keeps a.plan p is j has) ∙ (ap (f a.plan) (sym at_b) ∙ ap (λ k. f k b.end) same))

pub link_keeps : (X : Type 0) (f : Place → X) (w : Wiring) → ((l : Link) → Contains w.links l → f l.one ≡ f l.other)
    → (a b : Place) → Linked w a b → f a ≡ f b
link_keeps X f w keeps a b (l, has, inl (at_a, at_b)) = ap f at_a ∙ (keeps l has ∙ ap f (sym at_b))
link_keeps X f w keeps a b (l, has, inr (at_a, at_b)) = ap f at_a ∙ (sym (keeps l has) ∙ ap f (sym at_b))

pub path_keeps : (X : Type 0) (f : Place → X) (w : Wiring)
    → ((a b : Place) → JoinedWithin w a b → f a ≡ f b) → ((a b : Place) → Linked w a b → f a ≡ f b)
    → (n : ℕ) (a b : Place) → Path w n a b → f a ≡ f b
path_keeps X f w within linked zero a b e = ap f e
path_keeps X f w within linked (suc n) a b (x, inl here, path) = within a x here ∙ path_keeps X f w within linked n x b path
path_keeps X f w within linked (suc n) a b (x, inr here, path) = linked a x here ∙ path_keeps X f w within linked n x b path
