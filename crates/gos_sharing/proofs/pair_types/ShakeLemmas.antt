-- The handshakes of a narrow Share among those of a wide one, block by block: the source's, and those of each caller.
use Rattle.std.specs.Prelude.{◌≡◌, ℕ, zero, suc, ◌+◌, ◌-◌, ◌*◌, ◌<◌, ◌≤◌, Bool, true, false, nat_lt, if◌then◌else◌}
use Rattle.std.proofs.Common.{refl, sym, ◌∙◌, ap, arith}
use Rattle.std.proofs.lemmas.Bool.Decides.{nat_tests}

-- of blocks of n in blocks of m: h handshakes on from number j of the block that begins at base
abbrev spread : ℕ → ℕ → ℕ → ℕ → ℕ → ℕ
spread n m base j zero = base + j
spread n m base j (suc h) = if nat_lt (suc j) n then spread n m base (suc j) h else spread n m (base + m) 0 h

within : (n m base j h : ℕ) → j + h < n → spread n m base j h ≡ base + (j + h)
within n m base j zero low = omega arith
within n m base j (suc h) low =
    let small : suc j < n = omega (arith, low) in
    let test : nat_lt (suc j) n ≡ true = grind (arith, nat_tests, small) in
    let sum : base + (suc j + h) ≡ base + (j + suc h) = omega arith in
    ap (λ (b : Bool). if b then spread n m base (suc j) h else spread n m (base + m) 0 h) test ∙ (within n m base (suc j) h (omega (arith, low)) ∙ sum)

across : (n m base k j h : ℕ) → j + suc k ≡ n → spread n m base j (suc k + h) ≡ spread n m (base + m) 0 h
across n m base zero j h full =
    let one : suc 0 + h ≡ suc h = omega arith in
    let test : nat_lt (suc j) n ≡ false = grind (arith, nat_tests, full) in
    ap (spread n m base j) one ∙ ap (λ (b : Bool). if b then spread n m base (suc j) h else spread n m (base + m) 0 h) test
across n m base (suc k) j h full =
    let one : suc (suc k) + h ≡ suc (suc k + h) = omega arith in
    let small : suc j < n = omega (arith, full) in
    let test : nat_lt (suc j) n ≡ true = grind (arith, nat_tests, small) in
    ap (spread n m base j) one
    ∙ (ap (λ (b : Bool). if b then spread n m base (suc j) (suc k + h) else spread n m (base + m) 0 (suc k + h)) test
    ∙ across n m base k (suc j) h (omega (arith, full)))

blocks : (n m b base j : ℕ) → j < n → spread n m base 0 (b * n + j) ≡ base + (b * m + j)
blocks n m zero base j low =
    let none : 0 * n + j ≡ j = omega arith in
    let sum : base + (0 + j) ≡ base + (0 * m + j) = omega arith in
    ap (spread n m base 0) none ∙ (within n m base 0 j (omega (arith, low)) ∙ sum)
blocks n m (suc b) base j low =
    let first : suc b * n + j ≡ suc (n - 1) + (b * n + j) = omega (arith, low) in
    let sum : base + m + (b * m + j) ≡ base + (suc b * m + j) = omega arith in
    ap (spread n m base 0) first ∙ (across n m base (n - 1) 0 (b * n + j) (omega (arith, low)) ∙ (blocks n m b (base + m) j low ∙ sum))

divide : (n h : ℕ) → 0 < n → (b : ℕ) × (j : ℕ) × (j < n) × (h ≡ b * n + j)
divide n zero some = (0, 0, some, omega arith)
divide n (suc h) some = one_more (divide n h some)
  where
    one_more : (b : ℕ) × (j : ℕ) × (j < n) × (h ≡ b * n + j) → (b : ℕ) × (j : ℕ) × (j < n) × (suc h ≡ b * n + j)
    one_more (b, j, low, is) = by_test (nat_lt (suc j) n) refl
      where
        by_test : (t : Bool) → nat_lt (suc j) n ≡ t → (b : ℕ) × (j : ℕ) × (j < n) × (suc h ≡ b * n + j)
        by_test true test = (b, suc j, grind (arith, nat_tests, test), omega (arith, is))
        by_test false test = let full : suc j ≡ n = grind (arith, nat_tests, test, low) in (suc b, 0, some, omega (arith, is, full))

abbrev pub shake_of_narrow : ℕ → ℕ → ℕ → ℕ → ℕ
shake_of_narrow k n m h = k + spread n m 0 0 h

abbrev pub shake_of_wide : ℕ → ℕ → ℕ → ℕ → ℕ
shake_of_wide k n m h = spread m n 0 0 (h - k)

pub narrow_shakes : (k n m b j : ℕ) → j < n → shake_of_narrow k n m (b * n + j) ≡ b * m + (k + j)
narrow_shakes k n m b j low =
    let sum : k + (0 + (b * m + j)) ≡ b * m + (k + j) = omega arith in ap (λ (h : ℕ). k + h) (blocks n m b 0 j low) ∙ sum

pub narrow_returns : (k n m : ℕ) → 0 < n → k + n ≤ m → (h : ℕ) → shake_of_wide k n m (shake_of_narrow k n m h) ≡ h
narrow_returns k n m some fits h =
    let (b, j, low, is) = divide n h some in
    let there : shake_of_narrow k n m h ≡ b * m + (k + j) = ap (shake_of_narrow k n m) is ∙ narrow_shakes k n m b j low in
    let less : b * m + (k + j) - k ≡ b * m + j = omega arith in
    let back : 0 + (b * n + j) ≡ b * n + j = omega arith in
    ap (shake_of_wide k n m) there ∙ (ap (spread m n 0 0) less ∙ (blocks m n b 0 j (omega (arith, low, fits)) ∙ (back ∙ sym is)))
