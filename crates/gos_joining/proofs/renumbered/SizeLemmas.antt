-- Numbers below m and below n that are one to one: m is n, and all numbers are one to one when the others stay.
use Rattle.std.specs.Prelude.{◌≡◌, ℕ, zero, suc, ◌<◌, ◌≤◌, Bool, true, false, nat_eq, nat_lt, if◌then◌else◌}
use Rattle.std.proofs.Common.{refl, sym, ◌∙◌, ap, arith}
use Rattle.std.proofs.lemmas.Bool.Decides.{nat_tests}

abbrev IsInto : ℕ → ℕ → (ℕ → ℕ) → Type 0
IsInto m n g = (i : ℕ) → i < m → g i < n

abbrev IsInjective : ℕ → (ℕ → ℕ) → Type 0
IsInjective m g = (i j : ℕ) → i < m → j < m → g i ≡ g j → i ≡ j

-- what goes to the last number goes where the last number goes
abbrev chosen : Bool → ℕ → ℕ → ℕ
chosen b x y = if b then x else y

abbrev around : ℕ → ℕ → (ℕ → ℕ) → ℕ → ℕ
around m n g i = chosen (nat_eq (g i) n) (g m) (g i)

around_into : (m n : ℕ) (g : ℕ → ℕ) → IsInto (suc m) (suc n) g → IsInjective (suc m) g → IsInto m n (around m n g)
around_into m n g into one i low = by_test (nat_eq (g i) n) refl
  where
    by_test : (b : Bool) → nat_eq (g i) n ≡ b → chosen b (g m) (g i) < n
    by_test true test =
        let at_n : g i ≡ n = grind (arith, nat_tests, test) in
        let small = into m (omega arith) in
        let other : g m ≡ n → ⊥ = λ e. (let same = one i m (omega (arith, low)) (omega arith) (at_n ∙ sym e) in omega (arith, same, low)) in
        omega (arith, small, other)
    by_test false test =
        let small = into i (omega (arith, low)) in
        let other : g i ≡ n → ⊥ = λ e. grind (arith, nat_tests, test, e) in
        omega (arith, small, other)

around_one : (m n : ℕ) (g : ℕ → ℕ) → IsInjective (suc m) g → IsInjective m (around m n g)
around_one m n g one i j low_i low_j = by_tests (nat_eq (g i) n) (nat_eq (g j) n) refl refl
  where
    by_tests : (b c : Bool) → nat_eq (g i) n ≡ b → nat_eq (g j) n ≡ c → chosen b (g m) (g i) ≡ chosen c (g m) (g j) → i ≡ j
    by_tests true true test_i test_j e =
        let at_i : g i ≡ n = grind (arith, nat_tests, test_i) in
        let at_j : g j ≡ n = grind (arith, nat_tests, test_j) in
        one i j (omega (arith, low_i)) (omega (arith, low_j)) (at_i ∙ sym at_j)
    by_tests true false test_i test_j e = let same = one m j (omega arith) (omega (arith, low_j)) e in absurd (omega (arith, same, low_j))
    by_tests false true test_i test_j e = let same = one i m (omega (arith, low_i)) (omega arith) e in absurd (omega (arith, same, low_i))
    by_tests false false test_i test_j e = one i j (omega (arith, low_i)) (omega (arith, low_j)) e

no_more : (m n : ℕ) (g : ℕ → ℕ) → IsInto m n g → IsInjective m g → m ≤ n
no_more zero n g into one = omega arith
no_more (suc m) zero g into one = let no_room = into m (omega arith) in absurd (omega (arith, no_room))
no_more (suc m) (suc n) g into one =
    let rest = no_more m n (around m n g) (around_into m n g into one) (around_one m n g one) in omega (arith, rest)

-- g leads from numbers below m to those below n, and h back
pub record AreOneToOne (m n : ℕ) (g h : ℕ → ℕ) : Type 0 where
  pub forth : (i : ℕ) → i < m → g i < n
  pub back : (i : ℕ) → i < n → h i < m
  pub returns : (i : ℕ) → i < m → h (g i) ≡ i
  pub comes : (i : ℕ) → i < n → g (h i) ≡ i

pub same_size : (m n : ℕ) (g h : ℕ → ℕ) → AreOneToOne m n g h → m ≡ n
same_size m n g h are =
    let some = no_more m n g are.forth (λ i j low_i low_j e. sym (are.returns i low_i) ∙ (ap h e ∙ are.returns j low_j)) in
    let others = no_more n m h are.back (λ i j low_i low_j e. sym (are.comes i low_i) ∙ (ap g e ∙ are.comes j low_j)) in
    omega (arith, some, others)

-- numbers from n on stay
abbrev pub extended : ℕ → (ℕ → ℕ) → ℕ → ℕ
extended n g i = if nat_lt i n then g i else i

pub below : (n : ℕ) (g : ℕ → ℕ) (i : ℕ) → i < n → extended n g i ≡ g i
below n g i low = let test : nat_lt i n ≡ true = grind (arith, nat_tests, low) in ap (λ (b : Bool). if b then g i else i) test

pub above : (n : ℕ) (g : ℕ → ℕ) (i : ℕ) → n ≤ i → extended n g i ≡ i
above n g i high = let test : nat_lt i n ≡ false = grind (arith, nat_tests, high) in ap (λ (b : Bool). if b then g i else i) test

pub extended_returns : (n : ℕ) (g h : ℕ → ℕ) → AreOneToOne n n g h → (i : ℕ) → extended n h (extended n g i) ≡ i
extended_returns n g h are i = by_test (nat_lt i n) refl
  where
    by_test : (b : Bool) → nat_lt i n ≡ b → extended n h (extended n g i) ≡ i
    by_test true test =
        let low : i < n = grind (arith, nat_tests, test) in
        ap (extended n h) (below n g i low) ∙ (below n h (g i) (are.forth i low) ∙ are.returns i low)
    by_test false test =
        let high : n ≤ i = grind (arith, nat_tests, test) in ap (extended n h) (above n g i high) ∙ above n h i high

pub turned_around : (m n : ℕ) (g h : ℕ → ℕ) → AreOneToOne m n g h → AreOneToOne n m h g
turned_around m n g h are = record { forth = are.back; back = are.forth; returns = are.comes; comes = are.returns }
