-- Numbers of two lists that end alike: those of the fronts are given, and what follows keeps its order.
use Rattle.std.specs.Prelude.{◌≡◌, ℕ, ◌+◌, ◌-◌, ◌<◌, ◌≤◌, Bool, true, false, List, ◌++◌, length, Option, Some, None, nat_lt, slice_get, if◌then◌else◌}
use Rattle.std.proofs.Common.{refl, sym, ◌∙◌, ap, arith}
use Rattle.std.proofs.lemmas.Bool.Decides.{nat_tests}
use Rattle.std.proofs.lemmas.Option.{slice_get_within}
use Rattle.gos_types.proofs.ListLemmas.{element_at, same_in_front}
use Rattle.gos_realises.proofs.joined.OriginLemmas.{behind_at}

-- of n numbers in front, that have m
abbrev pub in_front : ℕ → ℕ → (ℕ → ℕ) → ℕ → ℕ
in_front n m to i = if nat_lt i n then to i else m + (i - n)

abbrev pub in_front_back : ℕ → ℕ → (ℕ → Option ℕ) → ℕ → Option ℕ
in_front_back n m from i = if nat_lt i m then from i else Some (n + (i - m))

pub front : (n m : ℕ) (to : ℕ → ℕ) (i : ℕ) → i < n → in_front n m to i ≡ to i
front n m to i small =
    let test : nat_lt i n ≡ true = grind (arith, nat_tests, small) in ap (λ (b : Bool). if b then to i else m + (i - n)) test

pub behind : (n m : ℕ) (to : ℕ → ℕ) (i : ℕ) → n ≤ i → in_front n m to i ≡ m + (i - n)
behind n m to i large =
    let test : nat_lt i n ≡ false = grind (arith, nat_tests, large) in ap (λ (b : Bool). if b then to i else m + (i - n)) test

front_back : (n m : ℕ) (from : ℕ → Option ℕ) (i : ℕ) → i < m → in_front_back n m from i ≡ from i
front_back n m from i small =
    let test : nat_lt i m ≡ true = grind (arith, nat_tests, small) in
    ap (λ (b : Bool). if b then from i else Some (n + (i - m))) test

behind_back : (n m : ℕ) (from : ℕ → Option ℕ) (i : ℕ) → m ≤ i → in_front_back n m from i ≡ Some (n + (i - m))
behind_back n m from i large =
    let test : nat_lt i m ≡ false = grind (arith, nat_tests, large) in
    ap (λ (b : Bool). if b then from i else Some (n + (i - m))) test

-- what has no number stands in front
pub none_front : (n m : ℕ) (from : ℕ → Option ℕ) (i : ℕ) → in_front_back n m from i ≡ None → (i < m) × (from i ≡ None)
none_front n m from i none = by_test (nat_lt i m) refl
  where
    by_test : (b : Bool) → nat_lt i m ≡ b → (i < m) × (from i ≡ None)
    by_test true test =
        let small : i < m = grind (arith, nat_tests, test) in (small, sym (front_back n m from i small) ∙ none)
    by_test false test =
        let large : m ≤ i = grind (arith, nat_tests, test) in
        let both : Some (n + (i - m)) ≡ None = sym (behind_back n m from i large) ∙ none in
        absurd (cc both)

module _ {X : Type 0} (xs ys zs : List X) (to : ℕ → ℕ) (from : ℕ → Option ℕ)
    (get : (i : ℕ) → slice_get ys (to i) ≡ slice_get xs i)
    (forth : (i : ℕ) → from (to i) ≡ Some i)
    (return : (i j : ℕ) → from i ≡ Some j → to j ≡ i)
  where
    abbrev n : ℕ
    n = length xs

    abbrev m : ℕ
    m = length ys

    pub front_within : (i : ℕ) → i < n → to i < m
    front_within i small = let (x, at) = element_at xs i small in slice_get_within ys (to i) x (get i ∙ at)

    front_number : (i j : ℕ) → i < m → from i ≡ Some j → j < n
    front_number i j small is =
        let (x, at) = element_at ys i small in
        slice_get_within xs j x (sym (get j) ∙ (ap (slice_get ys) (return i j is) ∙ at))

    pub front_get : (i : ℕ) → slice_get (ys ++ zs) (in_front n m to i) ≡ slice_get (xs ++ zs) i
    front_get i = by_test (nat_lt i n) refl
      where
        by_test : (b : Bool) → nat_lt i n ≡ b → slice_get (ys ++ zs) (in_front n m to i) ≡ slice_get (xs ++ zs) i
        by_test true test =
            let small : i < n = grind (arith, nat_tests, test) in
            ap (slice_get (ys ++ zs)) (front n m to i small)
            ∙ (same_in_front ys zs (to i) (front_within i small) ∙ (get i ∙ sym (same_in_front xs zs i small)))
        by_test false test =
            let large : n ≤ i = grind (arith, nat_tests, test) in
            let less : m + (i - n) - m ≡ i - n = omega arith in
            ap (slice_get (ys ++ zs)) (behind n m to i large)
            ∙ (behind_at ys zs (m + (i - n)) (omega arith) ∙ (ap (slice_get zs) less ∙ sym (behind_at xs zs i large)))

    pub front_forth : (i : ℕ) → in_front_back n m from (in_front n m to i) ≡ Some i
    front_forth i = by_test (nat_lt i n) refl
      where
        by_test : (b : Bool) → nat_lt i n ≡ b → in_front_back n m from (in_front n m to i) ≡ Some i
        by_test true test =
            let small : i < n = grind (arith, nat_tests, test) in
            ap (in_front_back n m from) (front n m to i small) ∙ (front_back n m from (to i) (front_within i small) ∙ forth i)
        by_test false test =
            let large : n ≤ i = grind (arith, nat_tests, test) in
            let same : n + (m + (i - n) - m) ≡ i = omega (arith, large) in
            ap (in_front_back n m from) (behind n m to i large) ∙ (behind_back n m from (m + (i - n)) (omega arith) ∙ ap Some same)

    pub front_return : (i j : ℕ) → in_front_back n m from i ≡ Some j → in_front n m to j ≡ i
    front_return i j is = by_test (nat_lt i m) refl
      where
        by_test : (b : Bool) → nat_lt i m ≡ b → in_front n m to j ≡ i
        by_test true test =
            let small : i < m = grind (arith, nat_tests, test) in
            let own = sym (front_back n m from i small) ∙ is in
            front n m to j (front_number i j small own) ∙ return i j own
        by_test false test =
            let large : m ≤ i = grind (arith, nat_tests, test) in
            let both : Some (n + (i - m)) ≡ Some j = sym (behind_back n m from i large) ∙ is in
            let same : n + (i - m) ≡ j = cc both in
            behind n m to j (omega (arith, same)) ∙ omega (arith, same, large)
