-- What is done to a term form by form is done to what its numbers mean.
use Rattle.std.specs.Prelude.{◌≡◌, ℕ, suc, Bool, true, false, List, [], ◌∷◌, ◌||◌, nat_eq, if◌then◌else◌}
use Rattle.std.proofs.Common.{◌∙◌, ap}
use Rattle.gos_types.specs.Types.{Type'}
use Rattle.gos_model.specs.Terms as terms
use Rattle.gos_model.specs.Terms.{Term}
use Rattle.gos_check.specs.declared.linear.Split.{Split}
use Rattle.gos_check.specs.Nodes.{Numbered, Closed, Use, Under, One, Two, If, Binding, OneForm, TwoForm, Meaning, shifted, below, inside_one, inside, meaning, binder_term, one_term, two_term}
use Rattle.gos_terms.specs.meanings.Meanings.{IsLeaf, HasLeaves}

-- the forms that a node may have
pub record IsByForms (f : ℕ → Term → Term) : Type 0 where
  pub leaf : (d : ℕ) (c : Term) → IsLeaf c → f d c ≡ c
  pub binder : (d : ℕ) (b : Binding) (t : Type') (m : Term) → f d (binder_term b t m) ≡ binder_term b t (f (suc d) m)
  pub one : (d : ℕ) (g : OneForm) (m : Term) → f d (one_term g m) ≡ one_term g (f d m)
  pub two : (d : ℕ) (g : TwoForm) (m n : Term) → f d (two_term g m n) ≡ two_term g (f d m) (f d n)
  pub choice : (d : ℕ) (m n p : Term) → f d (terms.If m n p) ≡ terms.If (f d m) (f d n) (f d p)

-- each use is of a known number
abbrev pub UsesKnown : (Term → Bool) → Meaning → Numbered → Type 0
UsesKnown known env (Closed t ss c) = Unit {0}
UsesKnown known env (Use t ss n) = known (env n) ≡ true
UsesKnown known env (Under t ss b n m) = UsesKnown known (below n (inside ss env)) m
UsesKnown known env (One t ss f m) = UsesKnown known (inside ss env) m
UsesKnown known env (Two t ss f m n) = UsesKnown known (inside ss env) m × UsesKnown known (inside ss env) n
UsesKnown known env (If t ss m n p) =
    UsesKnown known (inside ss env) m × UsesKnown known (inside ss env) n × UsesKnown known (inside ss env) p

-- what a known number stands for is so related, d binders in, before and after; one binder further in too
pub record IsShifted (f : ℕ → Term → Term) (known : Term → Bool) (R : ℕ → Term → Term → Type 0) : Type 0 where
  pub gives : (d : ℕ) (a b : Term) → R d a b → f d a ≡ b
  pub first : (d : ℕ) → R (suc d) (terms.Bound 0) (terms.Bound 0)
  pub further : (d : ℕ) (a b : Term) → R d a b → R (suc d) (shifted a) (shifted b)
  pub known_before : (a : Term) → known (shifted a) ≡ true → known a ≡ true

module _ (f : ℕ → Term → Term) (known : Term → Bool) (R : ℕ → Term → Term → Type 0) (forms : IsByForms f) (shifts : IsShifted f known R) where
  abbrev pub Relates : ℕ → Meaning → Meaning → Type 0
  Relates d env new = (k : ℕ) → known (env k) ≡ true → R d (env k) (new k)

  below_related : (d n : ℕ) (env new : Meaning) → Relates d env new → Relates (suc d) (below n env) (below n new)
  below_related d n env new rel k = by_test (nat_eq k n)
    where
      by_test : (b : Bool) → known (if b then terms.Bound 0 else shifted (env k)) ≡ true
          → R (suc d) (if b then terms.Bound 0 else shifted (env k)) (if b then terms.Bound 0 else shifted (new k))
      by_test true is = shifts.first d
      by_test false is = shifts.further d (env k) (new k) (rel k (shifts.known_before (env k) is))

  one_related : (d : ℕ) (s : Split) (env new : Meaning) → Relates d env new → Relates d (inside_one s env) (inside_one s new)
  one_related d s env new rel k = by_test (nat_eq k s.left || nat_eq k s.right)
    where
      by_test : (b : Bool) → known (if b then env s.of else env k) ≡ true → R d (if b then env s.of else env k) (if b then new s.of else new k)
      by_test true is = rel s.of is
      by_test false is = rel k is

  inside_related : (d : ℕ) (ss : List Split) (env new : Meaning) → Relates d env new → Relates d (inside ss env) (inside ss new)
  inside_related d [] env new rel = rel
  inside_related d (s ∷ ss) env new rel = inside_related d ss (inside_one s env) (inside_one s new) (one_related d s env new rel)

  pub mapped : (d : ℕ) (m : Numbered) (env new : Meaning) → HasLeaves m → UsesKnown known env m → Relates d env new
      → f d (meaning env m) ≡ meaning new m
  mapped d (Closed t ss c) env new leaves uses rel = forms.leaf d c leaves
  mapped d (Use t ss n) env new leaves uses rel = shifts.gives d (env n) (new n) (rel n uses)
  mapped d (Under t ss b n m) env new leaves uses rel =
      forms.binder d b t (meaning (below n (inside ss env)) m)
      ∙ ap (binder_term b t)
      (mapped (suc d) m (below n (inside ss env)) (below n (inside ss new)) leaves uses
      (below_related d n (inside ss env) (inside ss new) (inside_related d ss env new rel)))
  mapped d (One t ss g m) env new leaves uses rel =
      forms.one d g (meaning (inside ss env) m)
      ∙ ap (one_term g) (mapped d m (inside ss env) (inside ss new) leaves uses (inside_related d ss env new rel))
  mapped d (Two t ss g m n) env new leaves uses rel =
      let inner = inside_related d ss env new rel in
      let left = mapped d m (inside ss env) (inside ss new) leaves.0 uses.0 inner in
      let right = mapped d n (inside ss env) (inside ss new) leaves.1 uses.1 inner in
      forms.two d g (meaning (inside ss env) m) (meaning (inside ss env) n) ∙ (λ i. two_term g (left i) (right i))
  mapped d (If t ss m n p) env new leaves uses rel =
      let inner = inside_related d ss env new rel in
      let test = mapped d m (inside ss env) (inside ss new) leaves.0 uses.0 inner in
      let yes = mapped d n (inside ss env) (inside ss new) leaves.1 uses.1 inner in
      let no = mapped d p (inside ss env) (inside ss new) leaves.2 uses.2 inner in
      forms.choice d (meaning (inside ss env) m) (meaning (inside ss env) n) (meaning (inside ss env) p)
      ∙ (λ i. terms.If (test i) (yes i) (no i))
