-- A schedule has no more places than there are cells, since each place has a net of its own.
use Rattle.std.specs.Prelude.{◌≡◌, ◌≢◌, ℕ, zero, suc, ◌<◌, ◌≤◌, ◌⊎◌, Bool, true, false, List, length, nat_eq, if◌then◌else◌, take}
use Rattle.std.proofs.Common.{arith, refl, sym, inl, inr, ◌∙◌}
use Rattle.std.proofs.lemmas.Bool.{cases_order}
use Rattle.std.proofs.lemmas.Bool.Decides.{nat_tests}
use Rattle.std.proofs.lemmas.List.{length-take, get_or-take}
use Rattle.std.proofs.lemmas.Option.{get_or_from_slice_get, slice_get-get_or}
use Rattle.gos_netlist.specs.Nets.{Cell}
use Rattle.gos_netlist.specs.Settling.{at}
use Rattle.gos_netcheck.specs.Schedule.{IsSchedule}

-- the first n numbers that a function gives are below m, and differ
pub record IsInto (f : ℕ → ℕ) (n m : ℕ) : Type 0 where
  pub low : (i : ℕ) → i < n → f i < m
  pub apart : (i j : ℕ) → i < n → j < n → f i ≡ f j → i ≡ j

-- the function with the last of its numbers in the place of m
abbrev avoiding : (ℕ → ℕ) → ℕ → ℕ → ℕ → ℕ
avoiding f n m i = if nat_eq (f i) m then f n else f i

-- what it gives
avoids : (f : ℕ → ℕ) (n m i : ℕ) → ((f i ≡ m) × (avoiding f n m i ≡ f n)) ⊎ ((f i ≢ m) × (avoiding f n m i ≡ f i))
avoids f n m i = by_test (nat_eq (f i) m) refl
  where
    by_test : (b : Bool) → nat_eq (f i) m ≡ b → ((f i ≡ m) × ((if b then f n else f i) ≡ f n)) ⊎ ((f i ≢ m) × ((if b then f n else f i) ≡ f i))
    by_test true e = inl (grind (arith, nat_tests, e), refl)
    by_test false e = inr (λ same. grind (arith, nat_tests, e, same), refl)

one_less : (f : ℕ → ℕ) (n m : ℕ) → IsInto f (suc n) (suc m) → IsInto (avoiding f n m) n m
one_less f n m into = record { low = low; apart = apart }
  where
    low : (i : ℕ) → i < n → avoiding f n m i < m
    low i inside = by_case (avoids f n m i)
      where
        first : f i < suc m
        first = into.low i (omega (arith, inside))

        last : f n < suc m
        last = into.low n (omega arith)

        differ : f i ≡ f n → ⊥
        differ e = let same = into.apart i n (omega (arith, inside)) (omega arith) e in omega (arith, same, inside)

        by_case : ((f i ≡ m) × (avoiding f n m i ≡ f n)) ⊎ ((f i ≢ m) × (avoiding f n m i ≡ f i)) → avoiding f n m i < m
        by_case (inl (here, e)) =
            let other : f n ≢ m = λ there. differ (here ∙ sym there) in
            omega (arith, e, last, other)
        by_case (inr (other, e)) = omega (arith, e, first, other)

    apart : (i j : ℕ) → i < n → j < n → avoiding f n m i ≡ avoiding f n m j → i ≡ j
    apart i j first second same = by_cases (avoids f n m i) (avoids f n m j)
      where
        is : (k l : ℕ) → k < suc n → l < suc n → f k ≡ f l → k ≡ l
        is = into.apart

        by_cases : ((f i ≡ m) × (avoiding f n m i ≡ f n)) ⊎ ((f i ≢ m) × (avoiding f n m i ≡ f i))
            → ((f j ≡ m) × (avoiding f n m j ≡ f n)) ⊎ ((f j ≢ m) × (avoiding f n m j ≡ f j)) → i ≡ j
        by_cases (inl a) (inl b) = is i j (omega (arith, first)) (omega (arith, second)) (a.0 ∙ sym b.0)
        by_cases (inl a) (inr b) =
            let wrong = is n j (omega arith) (omega (arith, second)) (sym a.1 ∙ same ∙ b.1) in
            absurd (omega (arith, wrong, second))
        by_cases (inr a) (inl b) =
            let wrong = is i n (omega (arith, first)) (omega arith) (sym a.1 ∙ same ∙ b.1) in
            absurd (omega (arith, wrong, first))
        by_cases (inr a) (inr b) = is i j (omega (arith, first)) (omega (arith, second)) (sym a.1 ∙ same ∙ b.1)

-- there are as many numbers below m
pub count_into : (n m : ℕ) (f : ℕ → ℕ) → IsInto f n m → n ≤ m
count_into zero m f into = omega arith
count_into (suc n) zero f into = absurd (omega (arith, into.low zero (omega arith)))
count_into (suc n) (suc m) f into = omega (arith, count_into n m (avoiding f n m) (one_less f n m into))

pub few_places : (cells : List Cell) (order : List ℕ) → IsSchedule cells order → length order ≤ length cells
few_places cells order s = count_into (length order) (length cells) (at order) (record { low = low; apart = apart })
  where
    low : (i : ℕ) → i < length order → at order i < length cells
    low i inside = (s.due i (at order i) (slice_get-get_or order i 0 inside)).0

    -- a net does not come again
    new : (i j : ℕ) → i < j → j < length order → at order i ≡ at order j → ⊥
    new i j earlier inside e =
        let count : length (take j order) ≡ _ = length-take j order in
        (s.due j (at order j) (slice_get-get_or order j 0 inside)).1 (i, omega (arith, earlier, inside, count), get_or-take j order i (at order j) earlier ∙ (get_or_from_slice_get order i (at order i) (at order j) (slice_get-get_or order i 0 (omega (arith, earlier, inside))) ∙ e))

    apart : (i j : ℕ) → i < length order → j < length order → at order i ≡ at order j → i ≡ j
    apart i j first second e = by_order (cases_order i j)
      where
        by_order : (i ≡ j) ⊎ ((i < j) ⊎ (j < i)) → i ≡ j
        by_order (inl same) = same
        by_order (inr (inl less)) = absurd (new i j less second e)
        by_order (inr (inr more)) = absurd (new j i more first (sym e))
