-- Dots are told apart.
use Rattle.std.specs.Prelude.{◌≡◌, Bool, true, false, nat_eq, ◌⊎◌, ◌≤◌}
use Rattle.std.proofs.Common.{refl, ap, subst, arith, inl, inr}
use Rattle.std.proofs.lemmas.Bool.{eqb-true, and_parts}
use Rattle.gos_types.proofs.BoolLemmas.{one_at_most}
use Rattle.gos_plan.specs.Plans.{End, same_end}
use Rattle.gos_plan.proofs.JointLemmas.{same_itself, same_is}
use Rattle.gos_joining.specs.webs.Webs.{Dot, Of, Number, Node, Within}
use Rattle.gos_joining.specs.weaving.Woven.{same_dot, once}

-- it is so, or it isn't
abbrev pub Decided : Type 0 → Type 0
Decided A = A ⊎ (A → ⊥)

pub dot_itself : (d : Dot) → same_dot d d ≡ true
dot_itself (Of e) = same_itself e
dot_itself (Number n h) = grind arith
dot_itself (Node n h) = grind arith
dot_itself (Within n d) = let rest = dot_itself d in grind (arith, rest)

no_dot : (A : Type 0) → false ≡ true → A
no_dot A h = absurd (cc h)

pub dot_is : (d e : Dot) → same_dot d e ≡ true → d ≡ e
dot_is (Of d) (Of e) t = ap Of (same_is d e t)
dot_is (Of d) (Number k g) t = no_dot (Of d ≡ Number k g) t
dot_is (Of d) (Node k g) t = no_dot (Of d ≡ Node k g) t
dot_is (Of d) (Within k e) t = no_dot (Of d ≡ Within k e) t
dot_is (Number n h) (Of e) t = no_dot (Number n h ≡ Of e) t
dot_is (Number n h) (Number k g) t =
    let (one, other) = and_parts (nat_eq n k) (nat_eq h g) t in
    let first = eqb-true n k one in let second = eqb-true h g other in λ i. Number (first i) (second i)
dot_is (Number n h) (Node k g) t = no_dot (Number n h ≡ Node k g) t
dot_is (Number n h) (Within k e) t = no_dot (Number n h ≡ Within k e) t
dot_is (Node n h) (Of e) t = no_dot (Node n h ≡ Of e) t
dot_is (Node n h) (Number k g) t = no_dot (Node n h ≡ Number k g) t
dot_is (Node n h) (Node k g) t =
    let (one, other) = and_parts (nat_eq n k) (nat_eq h g) t in
    let first = eqb-true n k one in let second = eqb-true h g other in λ i. Node (first i) (second i)
dot_is (Node n h) (Within k e) t = no_dot (Node n h ≡ Within k e) t
dot_is (Within n d) (Of e) t = no_dot (Within n d ≡ Of e) t
dot_is (Within n d) (Number k g) t = no_dot (Within n d ≡ Number k g) t
dot_is (Within n d) (Node k g) t = no_dot (Within n d ≡ Node k g) t
dot_is (Within n d) (Within k e) t =
    let (one, other) = and_parts (nat_eq n k) (same_dot d e) t in
    let first = eqb-true n k one in let second = dot_is d e other in λ i. Within (first i) (second i)

pub one_dot : (d e : Dot) → Decided (d ≡ e)
one_dot d e = by_test (same_dot d e) refl
  where
    by_test : (b : Bool) → same_dot d e ≡ b → Decided (d ≡ e)
    by_test true t = inl (dot_is d e t)
    by_test false t =
        inr (λ (same : d ≡ e). let is : same_dot d e ≡ true = subst (λ (x : Dot). same_dot d x ≡ true) same (dot_itself d) in cc (t, is))

pub one_end : (d e : End) → Decided (d ≡ e)
one_end d e = by_test (same_end d e) refl
  where
    by_test : (b : Bool) → same_end d e ≡ b → Decided (d ≡ e)
    by_test true t = inl (same_is d e t)
    by_test false t =
        inr (λ (same : d ≡ e). let is : same_end d e ≡ true = subst (λ (x : End). same_end d x ≡ true) same (same_itself d) in cc (t, is))

pub once_at_most : (d e : Dot) → once d e ≤ 1
once_at_most d e = one_at_most (same_dot d e)
