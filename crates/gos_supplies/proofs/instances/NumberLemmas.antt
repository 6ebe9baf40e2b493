-- The numbers of plans: two plans and all supplies in a row, and the second plan, with its own supplies behind it, between the
-- supplies of the first.
use Rattle.std.specs.Prelude.{◌≡◌, ℕ, zero, suc, ◌+◌, ◌-◌, ◌<◌, ◌≤◌, Bool, true, false, nat_eq, nat_lt, if◌then◌else◌}
use Rattle.std.proofs.Common.{refl, sym, ◌∙◌, ap, arith}
use Rattle.std.proofs.lemmas.Bool.Decides.{nat_tests}

-- k supplies stand before the import that is served, j behind it, and t are the giver's
abbrev pub forth : ℕ → ℕ → ℕ → ℕ → ℕ
forth k j t zero = zero
forth k j t (suc zero) = suc k
forth k j t (suc (suc i)) =
    if nat_lt i k then suc i else if nat_lt i (k + j) then suc (suc (i + t)) else if nat_lt i (k + j + t) then suc (suc (i - j)) else suc (suc i)

abbrev pub undo : ℕ → ℕ → ℕ → ℕ → ℕ
undo k j t zero = zero
undo k j t (suc i) =
    if nat_lt i k then suc (suc i)
    else if nat_eq i k then 1
    else if nat_lt i (suc (k + t)) then suc (i + j)
    else if nat_lt i (suc (k + t + j)) then suc (i - t) else suc i

module _ (k j t : ℕ) where
  less : (a b : ℕ) → a < b → nat_lt a b ≡ true
  less a b low = grind (arith, nat_tests, low)

  not_less : (a b : ℕ) → b ≤ a → nat_lt a b ≡ false
  not_less a b high = grind (arith, nat_tests, high)

  equal : (a b : ℕ) → a ≡ b → nat_eq a b ≡ true
  equal a b same = grind (arith, nat_tests, same)

  not_equal : (a b : ℕ) → b < a → nat_eq a b ≡ false
  not_equal a b high = grind (arith, nat_tests, high)

  abbrev Forth : ℕ → Bool → Bool → Bool → ℕ
  Forth i a b c = if a then suc i else if b then suc (suc (i + t)) else if c then suc (suc (i - j)) else suc (suc i)

  abbrev Undo : ℕ → Bool → Bool → Bool → Bool → ℕ
  Undo i a b c d = if a then suc (suc i) else if b then 1 else if c then suc (i + j) else if d then suc (i - t) else suc i

  pub forth_first : (i : ℕ) → i < k → forth k j t (suc (suc i)) ≡ suc i
  forth_first i low =
      let a = less i k low in λ l. Forth i (a l) (nat_lt i (k + j)) (nat_lt i (k + j + t))

  pub forth_behind : (i : ℕ) → i < j → forth k j t (suc (suc (k + i))) ≡ suc (suc (k + t + i))
  forth_behind i low =
      let a = not_less (k + i) k (omega arith) in
      let b = less (k + i) (k + j) (omega (arith, low)) in
      let sum : suc (suc (k + i + t)) ≡ suc (suc (k + t + i)) = omega arith in
      (λ l. Forth (k + i) (a l) (b l) (nat_lt (k + i) (k + j + t))) ∙ sum

  pub forth_second : (i : ℕ) → i < t → forth k j t (suc (suc (k + j + i))) ≡ suc (suc (k + i))
  forth_second i low =
      let a = not_less (k + j + i) k (omega arith) in
      let b = not_less (k + j + i) (k + j) (omega arith) in
      let c = less (k + j + i) (k + j + t) (omega (arith, low)) in
      let sum : suc (suc (k + j + i - j)) ≡ suc (suc (k + i)) = omega arith in
      (λ l. Forth (k + j + i) (a l) (b l) (c l)) ∙ sum

  forth_beyond : (i : ℕ) → k + j + t ≤ i → forth k j t (suc (suc i)) ≡ suc (suc i)
  forth_beyond i high =
      let a = not_less i k (omega (arith, high)) in
      let b = not_less i (k + j) (omega (arith, high)) in
      let c = not_less i (k + j + t) high in
      λ l. Forth i (a l) (b l) (c l)

  pub undo_first : (i : ℕ) → i < k → undo k j t (suc i) ≡ suc (suc i)
  undo_first i low =
      let a = less i k low in λ l. Undo i (a l) (nat_eq i k) (nat_lt i (suc (k + t))) (nat_lt i (suc (k + t + j)))

  pub undo_at : undo k j t (suc k) ≡ 1
  undo_at =
      let a = not_less k k (omega arith) in
      let b = equal k k refl in
      λ l. Undo k (a l) (b l) (nat_lt k (suc (k + t))) (nat_lt k (suc (k + t + j)))

  pub undo_second : (i : ℕ) → i < t → undo k j t (suc (suc (k + i))) ≡ suc (suc (k + j + i))
  undo_second i low =
      let a = not_less (suc (k + i)) k (omega arith) in
      let b = not_equal (suc (k + i)) k (omega arith) in
      let c = less (suc (k + i)) (suc (k + t)) (omega (arith, low)) in
      let sum : suc (suc (k + i) + j) ≡ suc (suc (k + j + i)) = omega arith in
      (λ l. Undo (suc (k + i)) (a l) (b l) (c l) (nat_lt (suc (k + i)) (suc (k + t + j)))) ∙ sum

  pub undo_behind : (i : ℕ) → i < j → undo k j t (suc (suc (k + t + i))) ≡ suc (suc (k + i))
  undo_behind i low =
      let a = not_less (suc (k + t + i)) k (omega arith) in
      let b = not_equal (suc (k + t + i)) k (omega arith) in
      let c = not_less (suc (k + t + i)) (suc (k + t)) (omega arith) in
      let d = less (suc (k + t + i)) (suc (k + t + j)) (omega (arith, low)) in
      let sum : suc (suc (k + t + i) - t) ≡ suc (suc (k + i)) = omega arith in
      (λ l. Undo (suc (k + t + i)) (a l) (b l) (c l) (d l)) ∙ sum

  undo_beyond : (i : ℕ) → k + j + t ≤ i → undo k j t (suc (suc i)) ≡ suc (suc i)
  undo_beyond i high =
      let a = not_less (suc i) k (omega (arith, high)) in
      let b = not_equal (suc i) k (omega (arith, high)) in
      let c = not_less (suc i) (suc (k + t)) (omega (arith, high)) in
      let d = not_less (suc i) (suc (k + t + j)) (omega (arith, high)) in
      λ l. Undo (suc i) (a l) (b l) (c l) (d l)

  -- which of them it is
  data Zone (m n i : ℕ) : Type 0 where
    First : i < k → Zone m n i
    Middle : (a : ℕ) → a < m → i ≡ k + a → Zone m n i
    Last : (a : ℕ) → a < n → i ≡ k + m + a → Zone m n i
    Beyond : k + m + n ≤ i → Zone m n i

  zone : (m n i : ℕ) → Zone m n i
  zone m n i = by_tests (nat_lt i k) (nat_lt i (k + m)) (nat_lt i (k + m + n)) refl refl refl
    where
      by_tests : (a b c : Bool) → nat_lt i k ≡ a → nat_lt i (k + m) ≡ b → nat_lt i (k + m + n) ≡ c → Zone m n i
      by_tests true b c is_a is_b is_c = First (grind (arith, nat_tests, is_a))
      by_tests false true c is_a is_b is_c =
          let high : k ≤ i = grind (arith, nat_tests, is_a) in
          let low : i < k + m = grind (arith, nat_tests, is_b) in
          Middle (i - k) (omega (arith, high, low)) (omega (arith, high))
      by_tests false false true is_a is_b is_c =
          let high : k + m ≤ i = grind (arith, nat_tests, is_b) in
          let low : i < k + m + n = grind (arith, nat_tests, is_c) in
          Last (i - (k + m)) (omega (arith, high, low)) (omega (arith, high))
      by_tests false false false is_a is_b is_c = Beyond (grind (arith, nat_tests, is_c))

  pub forth_undo : (i : ℕ) → undo k j t (forth k j t i) ≡ i
  forth_undo zero = refl
  forth_undo (suc zero) = undo_at
  forth_undo (suc (suc i)) = by_zone (zone j t i)
    where
      by_zone : Zone j t i → undo k j t (forth k j t (suc (suc i))) ≡ suc (suc i)
      by_zone (First low) = ap (undo k j t) (forth_first i low) ∙ undo_first i low
      by_zone (Middle a low same) =
          let e : suc (suc i) ≡ suc (suc (k + a)) = omega (arith, same) in
          ap (λ (n : ℕ). undo k j t (forth k j t n)) e ∙ (ap (undo k j t) (forth_behind a low) ∙ (undo_behind a low ∙ sym e))
      by_zone (Last a low same) =
          let e : suc (suc i) ≡ suc (suc (k + j + a)) = omega (arith, same) in
          ap (λ (n : ℕ). undo k j t (forth k j t n)) e ∙ (ap (undo k j t) (forth_second a low) ∙ (undo_second a low ∙ sym e))
      by_zone (Beyond high) = ap (undo k j t) (forth_beyond i high) ∙ undo_beyond i high

  pub undo_forth : (i : ℕ) → forth k j t (undo k j t i) ≡ i
  undo_forth zero = refl
  undo_forth (suc zero) = by_first k refl
    where
      by_first : (n : ℕ) → k ≡ n → forth k j t (undo k j t (suc zero)) ≡ suc zero
      by_first zero e =
          let at : undo k j t (suc zero) ≡ 1 = ap (λ (n : ℕ). undo k j t (suc n)) (sym e) ∙ undo_at in
          ap (forth k j t) at ∙ ap suc e
      by_first (suc n) e =
          let low : 0 < k = omega (arith, e) in ap (forth k j t) (undo_first 0 low) ∙ forth_first 0 low
  undo_forth (suc (suc i)) = by_test (nat_lt (suc i) k) (nat_eq (suc i) k) refl refl
    where
      by_zone : Zone t j i → k ≤ i → forth k j t (undo k j t (suc (suc i))) ≡ suc (suc i)
      by_zone (First low) above = absurd (omega (arith, low, above))
      by_zone (Middle a low same) above =
          let e : suc (suc i) ≡ suc (suc (k + a)) = omega (arith, same) in
          ap (λ (n : ℕ). forth k j t (undo k j t n)) e ∙ (ap (forth k j t) (undo_second a low) ∙ (forth_second a low ∙ sym e))
      by_zone (Last a low same) above =
          let e : suc (suc i) ≡ suc (suc (k + t + a)) = omega (arith, same) in
          ap (λ (n : ℕ). forth k j t (undo k j t n)) e ∙ (ap (forth k j t) (undo_behind a low) ∙ (forth_behind a low ∙ sym e))
      by_zone (Beyond high) above =
          let most : k + j + t ≤ i = omega (arith, high) in ap (forth k j t) (undo_beyond i most) ∙ forth_beyond i most

      by_test : (a b : Bool) → nat_lt (suc i) k ≡ a → nat_eq (suc i) k ≡ b → forth k j t (undo k j t (suc (suc i))) ≡ suc (suc i)
      by_test true b is_a is_b =
          let low : suc i < k = grind (arith, nat_tests, is_a) in ap (forth k j t) (undo_first (suc i) low) ∙ forth_first (suc i) low
      by_test false true is_a is_b =
          let same : suc i ≡ k = grind (arith, nat_tests, is_b) in
          ap (λ (n : ℕ). forth k j t (undo k j t (suc n))) same ∙ (ap (forth k j t) undo_at ∙ ap suc (sym same))
      by_test false false is_a is_b =
          let least : k ≤ suc i = grind (arith, nat_tests, is_a) in
          let differ : suc i ≡ k → ⊥ = λ e. grind (arith, nat_tests, is_b, e) in
          by_zone (zone t j i) (omega (arith, least, differ))
