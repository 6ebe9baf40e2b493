-- How often a number is among those inside splits, and among those that pass a test.
use Rattle.std.specs.Prelude.{◌≡◌, ◌≢◌, ℕ, ◌+◌, ◌<◌, Bool, true, false, cond, List, [], ◌∷◌, nat_eq, nat_lt, filter}
use Rattle.std.proofs.Common.{refl, sym, ◌∙◌, ap, subst, arith}
use Rattle.std.proofs.lemmas.Bool.Decides.{nat_tests}
use Rattle.std.proofs.lemmas.Bool.{eq-eqb, ne_eqb}
use Rattle.gos_model.proofs.NumberLemmas.{number_cases}
use Rattle.gos_check.specs.declared.linear.Split.{Split}
use Rattle.gos_check.specs.Linearity.{times, sides}
use Rattle.gos_check.proofs.TimesLemmas.{times_same, times_other}
use Rattle.gos_terms.specs.stages.Inside.{numbers_inside}

pub times_inside : (k : ℕ) (ss : List Split) (ns : List ℕ) → times k (numbers_inside ss ns) ≡ times k (sides ss) + times k ns
times_inside k [] ns = omega arith
times_inside k (s ∷ ss) ns = let rest = times_inside k ss (s.left ∷ s.right ∷ ns) in omega (arith, rest)

-- tests of numbers
pub lt_true : (n : ℕ) → 0 < n → nat_lt 0 n ≡ true
lt_true n h = grind (arith, nat_tests)

pub true_lt : (n : ℕ) → nat_lt 0 n ≡ true → 0 < n
true_lt n h = grind (arith, nat_tests)

-- what passes a test is as often there as before, and nothing else is
abbrev pub Filtered : Bool → ℕ → ℕ → Type 0
Filtered true a b = a ≡ b
Filtered false a b = a ≡ 0

pub filtered : (test : ℕ → Bool) (ns : List ℕ) (k : ℕ) → Filtered (test k) (times k (filter test ns)) (times k ns)
filtered test [] k = none (test k)
  where
    none : (b : Bool) → Filtered b 0 0
    none true = refl
    none false = refl
filtered test (n ∷ ns) k = number_cases n k (λ e t. same e (filtered test ns k)) (λ e f. other (test n) e (filtered test ns k))
  where
    at : (b : Bool) → n ≡ k → Filtered b (times k (filter test ns)) (times k ns)
        → Filtered b (times k (cond b (n ∷ filter test ns) (filter test ns))) (times k (n ∷ ns))
    at true e rest =
        let one : times k (n ∷ filter test ns) ≡ 1 + times k (filter test ns) = ap (λ (a : ℕ). times k (a ∷ filter test ns)) e ∙ times_same k (filter test ns) in
        let two : times k (n ∷ ns) ≡ 1 + times k ns = ap (λ (a : ℕ). times k (a ∷ ns)) e ∙ times_same k ns in
        omega (arith, one, two, rest)
    at false e rest = rest

    same : n ≡ k → Filtered (test k) (times k (filter test ns)) (times k ns)
        → Filtered (test k) (times k (cond (test n) (n ∷ filter test ns) (filter test ns))) (times k (n ∷ ns))
    same e rest =
        subst (λ (b : Bool). Filtered (test k) (times k (cond b (n ∷ filter test ns) (filter test ns))) (times k (n ∷ ns))) (ap test (sym e)) (at (test k) e rest)

    kept : (b : Bool) → times k (n ∷ ns) ≡ times k ns → Filtered b (times k (filter test ns)) (times k ns) → Filtered b (times k (filter test ns)) (times k (n ∷ ns))
    kept true less rest = rest ∙ sym less
    kept false less rest = rest

    other : (b : Bool) → n ≢ k → Filtered (test k) (times k (filter test ns)) (times k ns)
        → Filtered (test k) (times k (cond b (n ∷ filter test ns) (filter test ns))) (times k (n ∷ ns))
    other true e rest =
        let less = times_other k n (filter test ns) e in
        subst (λ (a : ℕ). Filtered (test k) a (times k (n ∷ ns))) (sym less) (kept (test k) (times_other k n ns e) rest)
    other false e rest = kept (test k) (times_other k n ns e) rest

-- by a number that is there or not
pub passed : (a : ℕ → ℕ) (ns : List ℕ) (k : ℕ) → 0 < a k → times k (filter (λ j. nat_lt 0 (a j)) ns) ≡ times k ns
passed a ns k h =
    subst (λ (b : Bool). Filtered b (times k (filter (λ j. nat_lt 0 (a j)) ns)) (times k ns)) (lt_true (a k) h) (filtered (λ j. nat_lt 0 (a j)) ns k)

pub stopped : (a : ℕ → ℕ) (ns : List ℕ) (k : ℕ) → a k ≡ 0 → times k (filter (λ j. nat_lt 0 (a j)) ns) ≡ 0
stopped a ns k e =
    subst (λ (b : Bool). Filtered b (times k (filter (λ j. nat_lt 0 (a j)) ns)) (times k ns)) (ap (λ (z : ℕ). nat_lt 0 z) e) (filtered (λ j. nat_lt 0 (a j)) ns k)

pub none_passed : (a : ℕ → ℕ) (ns : List ℕ) (k : ℕ) → a k ≡ 0 → times k (filter (λ j. nat_eq (a j) 0) ns) ≡ times k ns
none_passed a ns k e =
    subst (λ (b : Bool). Filtered b (times k (filter (λ j. nat_eq (a j) 0) ns)) (times k ns)) (eq-eqb (a k) 0 e) (filtered (λ j. nat_eq (a j) 0) ns k)

pub some_stopped : (a : ℕ → ℕ) (ns : List ℕ) (k : ℕ) → 0 < a k → times k (filter (λ j. nat_eq (a j) 0) ns) ≡ 0
some_stopped a ns k h =
    subst (λ (b : Bool). Filtered b (times k (filter (λ j. nat_eq (a j) 0) ns)) (times k ns)) (ne_eqb (a k) 0 (λ e. omega (arith, e, h))) (filtered (λ j. nat_eq (a j) 0) ns k)
