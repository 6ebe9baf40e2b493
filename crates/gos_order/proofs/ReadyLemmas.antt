-- The nodes to which no edge leads, of those before one.
use Rattle.std.specs.Prelude.{◌≡◌, ◌≢◌, ◌<◌, ◌+◌, ℕ, List, [], ◌∷◌, ◌++◌, length}
use Rattle.std.proofs.Common.{subst, sym, arith, inl, inr}
use Rattle.std.proofs.lemmas.Bool.{cases_eq}
use Rattle.gos_order.specs.inner.NodeLists.{at, IsIn}
use Rattle.gos_order.specs.inner.Sortings.{not_among}
use Rattle.gos_order.proofs.AmongLemmas.{in_longer, in_pushed, only_pushed, once_pushed}

pub record AreReady (waits items : List ℕ) (node : ℕ) : Type 0 where
  pub ready : (x : ℕ) → x < node → at waits x ≡ 0 → IsIn items x
  pub idle : (x : ℕ) → IsIn items x → at waits x ≡ 0
  pub before : (x : ℕ) → IsIn items x → x < node
  pub once : (place : ℕ) → place < length items → not_among items place (at items place) ≡ 1

pub ready_none : (waits : List ℕ) → AreReady waits [] 0
ready_none waits = record {
  ready = λ x low. absurd (omega (arith, low));
  idle = λ x here. absurd (omega (arith, here.1));
  before = λ x here. absurd (omega (arith, here.1));
  once = λ place within. absurd (omega (arith, within));
}

-- one more, to which no edge leads
pub ready_put : (waits items : List ℕ) (node : ℕ) → AreReady waits items node → at waits node ≡ 0 → AreReady waits (items ++ node ∷ []) (node + 1)
ready_put waits items node are none = record {
  ready = λ x low free. elim (cases_eq x node) [
    | inl e ↦ subst (λ (y : ℕ). IsIn (items ++ node ∷ []) y) (sym e) (in_pushed items node)
    | inr ne ↦ in_longer items node x (are.ready x (omega (arith, low, ne)) free)
  ];
  idle = λ x here. elim (only_pushed items node x here) [
    | inl old ↦ are.idle x old
    | inr e ↦ subst (λ (y : ℕ). at waits y ≡ 0) (sym e) none
  ];
  before = λ x here. elim (only_pushed items node x here) [
    | inl old ↦ omega (arith, are.before x old)
    | inr e ↦ omega (arith, e)
  ];
  once = once_pushed items node (λ here. omega (arith, are.before node here)) are.once;
}

-- and one to which one does
pub ready_same : (waits items : List ℕ) (node : ℕ) → AreReady waits items node → at waits node ≢ 0 → AreReady waits items (node + 1)
ready_same waits items node are some = record {
  ready = λ x low free. elim (cases_eq x node) [
    | inl e ↦ absurd (some (subst (λ (y : ℕ). at waits y ≡ 0) e free))
    | inr ne ↦ are.ready x (omega (arith, low, ne)) free
  ];
  idle = are.idle;
  before = λ x here. omega (arith, are.before x here);
  once = are.once;
}
