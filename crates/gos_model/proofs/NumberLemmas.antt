-- Two numbers are one, or they aren't; one is below the other, or not; and one of two isn't 0 where their sum isn't.
use Rattle.std.specs.Prelude.{◌≡◌, ◌≢◌, ℕ, zero, suc, ◌+◌, ◌<◌, ◌⊎◌, Bool, true, false, nat_eq}
use Rattle.std.proofs.Common.{arith, refl, inl, inr}
use Rattle.std.proofs.lemmas.Bool.Decides.{nat_tests}
use Rattle.std.proofs.lemmas.Bool.{eqb-true, eqb-false}

pub number_cases : {P : Type 0} (k n : ℕ) → (k ≡ n → nat_eq k n ≡ true → P) → (k ≢ n → nat_eq k n ≡ false → P) → P
number_cases {P} k n same other = tested (nat_eq k n) refl
  where
    tested : (b : Bool) → nat_eq k n ≡ b → P
    tested true e = same (eqb-true k n e) e
    tested false e = other (eqb-false k n e) e

pub either : (a b : ℕ) → 0 < a + b → (0 < a) ⊎ (0 < b)
either zero b h = inr (omega (arith, h))
either (suc a) b h = inl (omega arith)

pub nat_eq_itself : (n : ℕ) → nat_eq n n ≡ true
nat_eq_itself n = grind (arith, nat_tests)

pub nat_eq_above : (i n : ℕ) → n < i → nat_eq i n ≡ false
nat_eq_above i n l = grind (arith, nat_tests)
