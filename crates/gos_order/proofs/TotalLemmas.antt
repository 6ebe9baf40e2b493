-- Sums of what a function gives below a bound: where they are the same, one less, nothing, or at most the bound.
use Rattle.std.specs.Prelude.{◌≡◌, ◌≢◌, ◌<◌, ◌≤◌, ℕ, zero, suc, Bool, true, false, if◌then◌else◌}
use Rattle.std.proofs.Common.{refl, sym, subst, arith, inl, inr}
use Rattle.std.proofs.lemmas.Bool.{cases_eq}
use Rattle.gos_order.specs.inner.Sortings.{total}

pub total_same : (f g : ℕ → ℕ) (n : ℕ) → ((k : ℕ) → k < n → f k ≡ g k) → total f n ≡ total g n
total_same f g zero same = refl
total_same f g (suc n) same =
    let here : f n ≡ g n = same n (omega arith) in
    let rest : total f n ≡ total g n = total_same f g n (λ k h. same k (omega (arith, h))) in
    omega (arith, here, rest)

-- one function gives one more at one place
pub total_less : (f g : ℕ → ℕ) (n place : ℕ) → place < n → f place ≡ suc (g place) → ((k : ℕ) → k < n → k ≢ place → f k ≡ g k)
    → total f n ≡ suc (total g n)
total_less f g zero place within one same = absurd (omega (arith, within))
total_less f g (suc n) place within one same = elim (cases_eq place n) [
  | inl e ↦
      let here : f n ≡ suc (g n) = subst (λ (k : ℕ). f k ≡ suc (g k)) e one in
      let rest : total f n ≡ total g n = total_same f g n (λ k h. same k (omega (arith, h)) (λ is. omega (arith, h, is, e))) in
      omega (arith, here, rest)
  | inr ne ↦
      let here : f n ≡ g n = same n (omega arith) (λ is. ne (sym is)) in
      let rest : total f n ≡ suc (total g n) = total_less f g n place (omega (arith, within, ne)) one (λ k h other. same k (omega (arith, h)) other) in
      omega (arith, here, rest)
]

-- what is given at a place is no more than the sum
pub total_holds : (f : ℕ → ℕ) (n place : ℕ) → place < n → f place ≤ total f n
total_holds f zero place within = absurd (omega (arith, within))
total_holds f (suc n) place within = elim (cases_eq place n) [
  | inl e ↦
      let here : f place ≡ f n = subst (λ (k : ℕ). f place ≡ f k) e refl in
      omega (arith, here)
  | inr ne ↦ omega (arith, total_holds f n place (omega (arith, within, ne)))
]

-- a sum that isn't 0 has a part that isn't
pub total_some : (f : ℕ → ℕ) (n : ℕ) → total f n ≢ 0 → (k : ℕ) × (k < n) × (f k ≢ 0)
total_some f zero other = absurd (other refl)
total_some f (suc n) other = elim (cases_eq (f n) 0) [
  | inl e ↦
      let (k, within, is) = total_some f n (λ none. other (omega (arith, e, none))) in
      (k, omega (arith, within), is)
  | inr ne ↦ (n, omega arith, ne)
]

pub total_bounded : (f : ℕ → ℕ) (n : ℕ) → ((k : ℕ) → f k ≤ 1) → total f n ≤ n
total_bounded f zero small = omega arith
total_bounded f (suc n) small = omega (arith, small n, total_bounded f n small)

pub one_at_most : (b : Bool) → (if b then 1 else 0) ≤ 1
one_at_most true = omega arith
one_at_most false = omega arith
