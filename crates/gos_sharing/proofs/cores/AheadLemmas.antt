-- Numbers of two lists that end alike, where those of the fronts are given.
use Rattle.std.specs.Prelude.{ℕ, ◌+◌, ◌-◌, ◌<◌, ◌≤◌, Bool, true, false, List, Option, Some, None, length, nat_lt, slice_get, if◌then◌else◌}
use Rattle.std.proofs.Common.{◌≡◌, ◌++◌, refl, sym, ◌∙◌, ap, arith}
use Rattle.std.proofs.lemmas.Bool.Decides.{nat_tests}
use Rattle.std.proofs.lemmas.Option.{slice_get_within}
use Rattle.gos_types.proofs.ListLemmas.{element_at, same_in_front}
use Rattle.gos_realises.proofs.joined.OriginLemmas.{behind_at}
use Rattle.gos_supplies.proofs.unjoined.FrontLemmas.{front, behind}
use Rattle.gos_sharing.specs.cores.Joined.{ahead, ahead_back}

-- where the fronts agree
pub ahead_same : (n m : ℕ) (to also : ℕ → ℕ) → ((i : ℕ) → i < n → to i ≡ also i) → (i : ℕ) → ahead n m to i ≡ ahead n m also i
ahead_same n m to also agree i = by_test (nat_lt i n) refl
  where
    by_test : (b : Bool) → nat_lt i n ≡ b → (if b then to i else m + (i - n)) ≡ (if b then also i else m + (i - n))
    by_test true test = agree i (grind (arith, nat_tests, test))
    by_test false test = refl

back_low : (n m all : ℕ) (from : ℕ → Option ℕ) (i : ℕ) → i < all → i < m → ahead_back n m all from i ≡ from i
back_low n m all from i within small =
    let one : nat_lt i all ≡ true = grind (arith, nat_tests, within) in
    let other : nat_lt i m ≡ true = grind (arith, nat_tests, small) in
    λ k. if one k then (if other k then from i else Some (n + (i - m))) else None

back_high : (n m all : ℕ) (from : ℕ → Option ℕ) (i : ℕ) → i < all → m ≤ i → ahead_back n m all from i ≡ Some (n + (i - m))
back_high n m all from i within large =
    let one : nat_lt i all ≡ true = grind (arith, nat_tests, within) in
    let other : nat_lt i m ≡ false = grind (arith, nat_tests, large) in
    λ k. if one k then (if other k then from i else Some (n + (i - m))) else None

back_none : (n m all : ℕ) (from : ℕ → Option ℕ) (i : ℕ) → all ≤ i → ahead_back n m all from i ≡ None
back_none n m all from i past =
    let one : nat_lt i all ≡ false = grind (arith, nat_tests, past) in
    λ k. if one k then (if nat_lt i m then from i else Some (n + (i - m))) else None

module _ {X : Type 0} (xs ys zs : List X) (to : ℕ → ℕ) (from : ℕ → Option ℕ)
    (forth : (i : ℕ) (x : X) → slice_get xs i ≡ Some x → (slice_get ys (to i) ≡ Some x) × (from (to i) ≡ Some i))
    (back : (i j : ℕ) → from i ≡ Some j → (to j ≡ i) × ((x : X) × (slice_get xs j ≡ Some x)))
  where
    abbrev n : ℕ
    n = length xs

    abbrev m : ℕ
    m = length ys

    abbrev all : ℕ
    all = length (ys ++ zs)

    pub ahead_forth : (i : ℕ) (x : X) → slice_get (xs ++ zs) i ≡ Some x → (slice_get (ys ++ zs) (ahead n m to i) ≡ Some x) × (ahead_back n m all from (ahead n m to i) ≡ Some i)
    ahead_forth i x at = by_test (nat_lt i n) refl
      where
        by_test : (b : Bool) → nat_lt i n ≡ b → (slice_get (ys ++ zs) (ahead n m to i) ≡ Some x) × (ahead_back n m all from (ahead n m to i) ≡ Some i)
        by_test true test =
            let low : i < n = grind (arith, nat_tests, test) in
            let (there, number) = forth i x (sym (same_in_front xs zs i low) ∙ at) in
            let lands : ahead n m to i ≡ to i = front n m to i low in
            let small : to i < m = slice_get_within ys (to i) x there in
            let whole : slice_get (ys ++ zs) (to i) ≡ Some x = same_in_front ys zs (to i) small ∙ there in (
              ap (slice_get (ys ++ zs)) lands ∙ whole,
              ap (ahead_back n m all from) lands ∙ (back_low n m all from (to i) (slice_get_within (ys ++ zs) (to i) x whole) small ∙ number),
            )
        by_test false test =
            let high : n ≤ i = grind (arith, nat_tests, test) in
            let lands : ahead n m to i ≡ m + (i - n) = behind n m to i high in
            let less : m + (i - n) - m ≡ i - n = omega arith in
            let returns : n + (m + (i - n) - m) ≡ i = omega (arith, high) in
            let whole : slice_get (ys ++ zs) (m + (i - n)) ≡ Some x =
            behind_at ys zs (m + (i - n)) (omega arith) ∙ (ap (slice_get zs) less ∙ (sym (behind_at xs zs i high) ∙ at))
            in (
              ap (slice_get (ys ++ zs)) lands ∙ whole,
              ap (ahead_back n m all from) lands
                  ∙ (back_high n m all from (m + (i - n)) (slice_get_within (ys ++ zs) (m + (i - n)) x whole) (omega arith) ∙ ap Some returns),
            )

    abbrev Lands : ℕ → ℕ → Type 0
    Lands i j = (ahead n m to j ≡ i) × ((x : X) × (slice_get (xs ++ zs) j ≡ Some x))

    pub ahead_return : (i j : ℕ) → ahead_back n m all from i ≡ Some j → Lands i j
    ahead_return i j is = by_test (nat_lt i all) (nat_lt i m) refl refl
      where
        by_test : (b d : Bool) → nat_lt i all ≡ b → nat_lt i m ≡ d → Lands i j
        by_test false d test other =
            let clash : None ≡ Some j = sym (back_none n m all from i (grind (arith, nat_tests, test))) ∙ is in absurd (cc clash)
        by_test true true test other =
            let within : i < all = grind (arith, nat_tests, test) in
            let small : i < m = grind (arith, nat_tests, other) in
            let (lands, (x, at)) = back i j (sym (back_low n m all from i within small) ∙ is) in
            let low : j < n = slice_get_within xs j x at in
            (front n m to j low ∙ lands, (x, same_in_front xs zs j low ∙ at))
        by_test true false test other =
            let within : i < all = grind (arith, nat_tests, test) in
            let large : m ≤ i = grind (arith, nat_tests, other) in
            let both : Some (n + (i - m)) ≡ Some j = sym (back_high n m all from i within large) ∙ is in
            let number : n + (i - m) ≡ j = cc both in
            let high : n ≤ j = omega (arith, number) in
            let less : j - n ≡ i - m = omega (arith, number) in
            let returns : m + (j - n) ≡ i = omega (arith, number, large) in
            let (x, at) = element_at (ys ++ zs) i within in (
              behind n m to j high ∙ returns,
              (x, behind_at xs zs j high ∙ (ap (slice_get zs) less ∙ (sym (behind_at ys zs i large) ∙ at))),
            )
