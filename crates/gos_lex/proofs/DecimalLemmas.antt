-- Which digits begin a number of a range.
use Rattle.std.proofs.Common.{◌≡◌, ◌≢◌, inl, inr, ℕ, zero, suc, ◌+◌, ◌-◌, ◌*◌, ◌/◌, ◌%◌, ◌^◌, ◌<◌, ◌≤◌, ◌&&◌, true, false, List, [], ◌∷◌, ◌++◌, length, get_or, refl, sym, ◌∙◌, ap, subst, arith, append-nil, append_assoc, length-append, Option, Some, None, MatchOption}
use Rattle.std.specs.Char.{is_ascii_digit}
use Rattle.std.specs.Fmt.{decimal}
use Rattle.std.specs.List.{list_all, slice_range}
use Rattle.std.specs.Option.{SomeIff, IfSome}
use Rattle.std.proofs.Math.Nat.{pow-succ'}
use Rattle.std.proofs.lemmas.Bool.{both_ways, cases_lt, and_parts}
use Rattle.std.proofs.lemmas.List.Folds.{list_all-append}
use Rattle.std.proofs.lemmas.Fmt.{decimal_digit, decimal_step, decimal_nonempty, decimal_injective, first_decimal, decimal_by_steps}
use Rattle.gos_lex.specs.Items.{Begins, Passes, StopsAt, Misses}
use Rattle.gos_lex.proofs.PlaceLemmas.{slice_split}
use Rattle.gos_lex.proofs.ItemLemmas.{stops_bound, stops_here}
use Rattle.gos_lex.specs.Decimals.{IsDecimalIn}
use Rattle.gos_lex.specs.inner.Digits.{digits_so_far}

-- what is left of a list that begins with `front` when its last element goes
pub record Shorter (front whole : List ℕ) : Type 0 where
  pub more : List ℕ
  pub is : front ++ more ≡ whole

split_last : (front more whole : List ℕ) (d : ℕ) → 0 < length more → front ++ more ≡ whole ++ d ∷ [] → Shorter front whole
split_last [] more whole d some is = record { more = whole; is = refl }
split_last (x ∷ front) more [] d some is =
    absurd (omega (arith, some, ap length is, length-append front more))
split_last (x ∷ front) more (y ∷ whole) d some is =
    let tails : front ++ more ≡ whole ++ d ∷ [] = cc is in
    let heads : x ≡ y = cc is in
    let rest = split_last front more whole d some tails in
    let known : front ++ rest.more ≡ whole = rest.is in
    record { more = rest.more; is = cc (heads, known) }

-- a number whose digits begin with these is at least the least one that is written with these alone
prefix_least : (front : List ℕ) (least : ℕ) → 0 < length front → ((n : ℕ) → n < 2 ^ 64 → front ≡ decimal n → least ≤ n) → (turns n : ℕ) (more : List ℕ) → n ≤ turns → n < 2 ^ 64 → front ++ more ≡ decimal n → least ≤ n
prefix_least front least some alone turns n [] high fits is = alone n fits (sym (append-nil front) ∙ is)
prefix_least front least some alone zero n (b ∷ more) high fits is =
    let one : decimal n ≡ (48 + n) ∷ [] = decimal_digit n (omega (arith, high)) in
    absurd (omega (arith, some, ap length (is ∙ one), length-append front (b ∷ more)))
prefix_least front least some alone (suc turns) n (b ∷ more) high fits is =
    elim (cases_lt n 10) [
      | inl small ↦
          let one : decimal n ≡ (48 + n) ∷ [] = decimal_digit n small in
          absurd (omega (arith, some, ap length (is ∙ one), length-append front (b ∷ more)))
      | inr large ↦
          let rest = split_last front (b ∷ more) (decimal (n / 10)) (48 + n % 10) (omega arith) (is ∙ decimal_step n large fits) in
          let bound = prefix_least front least some alone turns (n / 10) rest.more (omega (arith, high, large)) (omega (arith, fits)) rest.is in
          omega (arith, bound)
    ]

-- no number is below one whose digits it begins with
pub prefix_le : (value n : ℕ) (more : List ℕ) → value < 2 ^ 64 → n < 2 ^ 64 → decimal value ++ more ≡ decimal n → value ≤ n
prefix_le value n more small fits is =
    prefix_least (decimal value) value (decimal_nonempty value small)
    (λ m inside same. let e : value ≡ m = decimal_injective value m small inside same in omega (arith, e)) n n more (omega arith) fits is

-- a number of the range begins with the digits of one whose last digit is left out
pub begins_longer : (value low high : ℕ) → value < 2 ^ 64 → high < 2 ^ 64 → low ≤ high → value ≢ 0 → Begins (IsDecimalIn (low / 10) (high / 10)) (decimal value) → Begins (IsDecimalIn low high) (decimal value)
begins_longer value low high small fits range some begins =
    elim (cases_lt low (10 * begins.1.0)) [
      | inl below ↦ last (10 * begins.1.0) (omega (arith, below)) (omega (arith, begins.1.2)) (omega arith)
      | inr above ↦ last low (omega arith) range (omega (arith, above, begins.1.1))
    ]
  where
    positive : value ≤ begins.1.0
    positive = prefix_le value begins.1.0 begins.0 small (omega (arith, begins.1.2, fits)) begins.1.3

    last : (n : ℕ) → low ≤ n → n ≤ high → n / 10 ≡ begins.1.0 → Begins (IsDecimalIn low high) (decimal value)
    last n above below same =
        let large : 10 ≤ n = omega (arith, positive, some, same) in
        let step : decimal n ≡ decimal (n / 10) ++ (48 + n % 10) ∷ [] = decimal_step n large (omega (arith, below, fits)) in (
          begins.0 ++ (48 + n % 10) ∷ [],
          (
            n,
            above,
            below,
            sym (append_assoc (decimal value) begins.0 ((48 + n % 10) ∷ [])) ∙ (ap (λ front. front ++ (48 + n % 10) ∷ []) (begins.1.3 ∙ ap decimal (sym same)) ∙ sym step),
          ),
        )

-- the digits of a number of the range are whole, or begin one whose last digit is left out
pub begins_shorter : (value low high : ℕ) → value < 2 ^ 64 → high < 2 ^ 64 → value < low → Begins (IsDecimalIn low high) (decimal value) → (value ≢ 0) × Begins (IsDecimalIn (low / 10) (high / 10)) (decimal value)
begins_shorter value low high small fits below begins = from begins.0 begins.1.0 begins.1.1 begins.1.2 begins.1.3
  where
    from : (more : List ℕ) (n : ℕ) → low ≤ n → n ≤ high → decimal value ++ more ≡ decimal n → (value ≢ 0) × Begins (IsDecimalIn (low / 10) (high / 10)) (decimal value)
    from [] n above under is =
        let same = decimal_injective value n small (omega (arith, under, fits)) (sym (append-nil (decimal value)) ∙ is) in
        absurd (omega (arith, same, below, above))
    from (b ∷ more) n above under is =
        let inside : n < 2 ^ 64 = omega (arith, under, fits) in
        elim (cases_lt n 10) [
          | inl one ↦
              let digit : decimal n ≡ (48 + n) ∷ [] = decimal_digit n one in
              absurd (omega (arith, decimal_nonempty value small, ap length (is ∙ digit), length-append (decimal value) (b ∷ more)))
          | inr large ↦
              let rest = split_last (decimal value) (b ∷ more) (decimal (n / 10)) (48 + n % 10) (omega arith) (is ∙ decimal_step n large inside) in
              let first : (zero' : value ≡ 0) → get_or (decimal n) 0 0 ≡ 48 =
              λ zero'. ap (λ bytes. get_or bytes 0 0) (sym is ∙ ap (λ front. front ++ b ∷ more) (ap decimal zero' ∙ decimal_digit 0 (omega arith))) in (
                λ zero'. absurd (omega (arith, first zero', first_decimal n (omega (arith, large)) inside)),
                (rest.more, (n / 10, omega (arith, above), omega (arith, under), rest.is)),
              )
        ]

-- no number above the range begins one of the range
pub begins_le : (value low high : ℕ) → value < 2 ^ 64 → high < 2 ^ 64 → Begins (IsDecimalIn low high) (decimal value) → value ≤ high
begins_le value low high small fits begins =
    omega (arith, prefix_le value begins.1.0 begins.0 small (omega (arith, begins.1.2, fits)) begins.1.3, begins.1.2)

-- a number of the range begins itself
pub begins_whole : (value low high : ℕ) → low ≤ value → value ≤ high → Begins (IsDecimalIn low high) (decimal value)
begins_whole value low high above below = ([], (value, above, below, append-nil (decimal value)))

-- a number has digits alone
all_digits : (n : ℕ) → n < 2 ^ 64 → list_all is_ascii_digit (decimal n) ≡ true
all_digits n fits = decimal_by_steps (λ _ bytes. list_all is_ascii_digit bytes ≡ true) one more n fits
  where
    digit : (d : ℕ) → d < 10 → list_all is_ascii_digit ((48 + d) ∷ []) ≡ true
    digit d small = grind arith

    one : (n : ℕ) → n < 10 → list_all is_ascii_digit ((48 + n) ∷ []) ≡ true
    one n small = digit n small

    more : (n : ℕ) (bytes : List ℕ) → 10 ≤ n → list_all is_ascii_digit bytes ≡ true → list_all is_ascii_digit (bytes ++ (48 + n % 10) ∷ []) ≡ true
    more n bytes large all = list_all-append is_ascii_digit bytes ((48 + n % 10) ∷ []) ∙ rw (all, digit (n % 10) (omega arith)) refl

-- a byte among the digits of a number is one
pub digit_within : (front : List ℕ) (b : ℕ) → Begins (IsDecimalIn 0 (2 ^ 64 - 1)) (front ++ b ∷ []) → is_ascii_digit b ≡ true
digit_within front b begins =
    let all = all_digits begins.1.0 (omega (arith, begins.1.2)) in
    let whole : list_all is_ascii_digit ((front ++ b ∷ []) ++ begins.0) ≡ true = ap (list_all is_ascii_digit) begins.1.3 ∙ all in
    let left = and_parts (list_all is_ascii_digit (front ++ b ∷ [])) (list_all is_ascii_digit begins.0) (sym (list_all-append is_ascii_digit (front ++ b ∷ []) begins.0) ∙ whole) in
    let right = and_parts (list_all is_ascii_digit front) (is_ascii_digit b && true) (sym (list_all-append is_ascii_digit front (b ∷ [])) ∙ left.0) in
    (and_parts (is_ascii_digit b) true right.1).0

-- after a leading zero comes no digit
pub zero_stops : (b : ℕ) → Begins (IsDecimalIn 0 (2 ^ 64 - 1)) (decimal 0 ++ b ∷ []) → ⊥
zero_stops b begins =
    let fits : begins.1.0 < 2 ^ 64 = omega (arith, begins.1.2) in
    let bytes : decimal 0 ≡ 48 ∷ [] = decimal_digit 0 (omega arith) in
    let is : 48 ∷ b ∷ begins.0 ≡ decimal begins.1.0 = ap (λ front. (front ++ b ∷ []) ++ begins.0) (sym bytes) ∙ begins.1.3 in
    elim (cases_lt begins.1.0 10) [
      | inl one ↦ absurd (omega (arith, ap length (is ∙ decimal_digit begins.1.0 one)))
      | inr large ↦ absurd (omega (arith, first_decimal begins.1.0 (omega (arith, large)) fits, ap (λ whole. get_or whole 0 0) is))
    ]

pub digit_range : (b : ℕ) → is_ascii_digit b ≡ true → (48 ≤ b) × (b ≤ 57)
digit_range b digit = (grind arith, grind arith)

-- so many digits and one more
pub one_digit_more : (value digit k : ℕ) → value < 10 ^ k → digit < 10 → 10 * value + digit < 10 ^ suc k
one_digit_more value digit k below small = omega (arith, below, small, pow-succ' 10 k)

-- one more digit
pub digit_more : (value b : ℕ) → is_ascii_digit b ≡ true → value ≢ 0 → 10 * value + (b - 48) < 2 ^ 64 → decimal value ++ b ∷ [] ≡ decimal (10 * value + (b - 48))
digit_more value b digit some fits =
    let range : (48 ≤ b) × (b ≤ 57) = digit_range b digit in
    let front : (10 * value + (b - 48)) / 10 ≡ value = omega (arith, range.0, range.1) in
    let last : 48 + (10 * value + (b - 48)) % 10 ≡ b = omega (arith, range.0, range.1) in
    sym (decimal_step (10 * value + (b - 48)) (omega (arith, some)) fits ∙ rw (front, last) refl)

-- digits whose value leaves the numbers begin none
pub digit_too_many : (value b : ℕ) → value < 2 ^ 64 → 2 ^ 64 ≤ 10 * value + (b - 48) → Begins (IsDecimalIn 0 (2 ^ 64 - 1)) (decimal value ++ b ∷ []) → ⊥
digit_too_many value b small great begins =
    let some : 0 < length (decimal value) = decimal_nonempty value small in
    let size = length-append (decimal value) (b ∷ []) in
    let bound = prefix_least (decimal value ++ b ∷ []) (10 * value + (b - 48)) (omega (arith, size)) alone begins.1.0 begins.1.0 begins.0 (omega arith) (omega (arith, begins.1.2)) begins.1.3 in
    absurd (omega (arith, bound, begins.1.2, great))
  where
    snoc_parts : (front whole : List ℕ) (b d : ℕ) → front ++ b ∷ [] ≡ whole ++ d ∷ [] → (front ≡ whole) × (b ≡ d)
    snoc_parts [] [] b d is = (refl, cc is)
    snoc_parts [] (y ∷ whole) b d is = absurd (omega (arith, ap length is, length-append whole (d ∷ [])))
    snoc_parts (x ∷ front) [] b d is = absurd (omega (arith, ap length is, length-append front (b ∷ [])))
    snoc_parts (x ∷ front) (y ∷ whole) b d is =
        let heads : x ≡ y = cc is in
        let tails : front ++ b ∷ [] ≡ whole ++ d ∷ [] = cc is in
        let rest = snoc_parts front whole b d tails in
        let known : front ≡ whole = rest.0 in
        (cc (heads, known), rest.1)

    alone : (n : ℕ) → n < 2 ^ 64 → decimal value ++ b ∷ [] ≡ decimal n → 10 * value + (b - 48) ≤ n
    alone n fits is =
        elim (cases_lt n 10) [
          | inl one ↦ absurd (omega (arith, decimal_nonempty value small, ap length (is ∙ decimal_digit n one), length-append (decimal value) (b ∷ [])))
          | inr large ↦
              let parts = snoc_parts (decimal value) (decimal (n / 10)) b (48 + n % 10) (is ∙ decimal_step n large fits) in
              let same = decimal_injective value (n / 10) small (omega (arith, fits)) parts.0 in
              omega (arith, same, parts.1)
        ]

-- the digits so far and one more, in each case of what stands so far
pub first_digit : (value : Option ℕ) (b digit : ℕ) → value ≡ None → is_ascii_digit b ≡ true → digit ≡ b - 48 → digits_so_far value ++ b ∷ [] ≡ decimal digit
first_digit value b digit none is same =
    let range = digit_range b is in
    let small : digit < 10 = omega (arith, same, range.1) in
    let byte : b ≡ 48 + digit = omega (arith, same, range.0) in
    ap (λ far. digits_so_far far ++ b ∷ []) none ∙ (ap (λ n. n ∷ []) byte ∙ sym (decimal_digit digit small))

-- what a number with one more digit is, in both cases
pub another_digit : (far next : Option ℕ) (value b digit : ℕ) → far ≡ Some value → value < 2 ^ 64 → is_ascii_digit b ≡ true → digit ≡ b - 48
    → SomeIff next ((0 < value) × (10 * value + digit < 2 ^ 64)) (10 * value + digit)
    → MatchOption next (Begins (IsDecimalIn 0 (2 ^ 64 - 1)) (digits_so_far far ++ b ∷ []) → ⊥) (λ n. digits_so_far far ++ b ∷ [] ≡ decimal n)
another_digit far None value b digit some small is same over =
    let P : Option ℕ → Type 0 = λ seen. Begins (IsDecimalIn 0 (2 ^ 64 - 1)) (digits_so_far seen ++ b ∷ []) in
    λ begins. elim (cases_lt 0 value) [
      | inl positive ↦
          elim (cases_lt (10 * value + digit) (2 ^ 64)) [
            | inl under ↦ absurd (over (positive, under))
            | inr above ↦ digit_too_many value b small (omega (arith, above, same)) (subst P some begins)
          ]
      | inr none ↦
          let zero' : value ≡ 0 = omega (arith, none) in
          zero_stops b (subst P (some ∙ ap (λ (n : ℕ). Some n) zero') begins)
    ]
another_digit far (Some n) value b digit some small is same under =
    ap (λ seen. digits_so_far seen ++ b ∷ []) some
    ∙ (digit_more value b is (λ zero'. absurd (omega (arith, under.0.0, zero'))) (omega (arith, under.0.1, same)) ∙ ap decimal (ap (λ d. 10 * value + d) (sym same) ∙ sym under.1))

-- what begins a number of the range begins a number
pub begins_wider : (bytes : List ℕ) (low high : ℕ) → high < 2 ^ 64 → Begins (IsDecimalIn low high) bytes → Begins (IsDecimalIn 0 (2 ^ 64 - 1)) bytes
begins_wider bytes low high fits begins = (begins.0, (begins.1.0, omega arith, omega (arith, begins.1.2, fits), begins.1.3))

-- nothing yet begins the least number of the range
pub begins_nothing : (low high : ℕ) → low ≤ high → Begins (IsDecimalIn low high) []
begins_nothing low high range = (decimal low, (low, omega arith, range, refl))

-- the digits of a number of the range stand, and no more begin one
pub number_passes : (text : List ℕ) (at place low high value : ℕ) → low ≤ value → value ≤ high → slice_range text at place ≡ decimal value → StopsAt (IsDecimalIn low high) text at place → Passes (IsDecimalIn low high) text at place
number_passes text at place low high value above below is stops =
    record {
      after = stops.after;
      within = stops.within;
      item = (value, above, below, is);
      longest = λ end within item. stops_bound (IsDecimalIn low high) text at place end stops within item;
    }

-- a number of the range stands, and no digit behind it
pub plain_passes : (text : List ℕ) (at place low high value : ℕ) → high < 2 ^ 64 → at ≤ place → place < length text → slice_range text at place ≡ decimal value → is_ascii_digit (get_or text place 0) ≡ false → low ≤ value → value ≤ high → Passes (IsDecimalIn low high) text at place
plain_passes text at place low high value fits after inside is other above below =
    let byte : ℕ = get_or text place 0 in
    number_passes text at place low high value above below is
    (stops_here (IsDecimalIn low high) text at place (decimal value) after inside is (begins_whole value low high above below)
    (λ more. both_ways (is_ascii_digit byte) other (digit_within (decimal value) byte (begins_wider (decimal value ++ byte ∷ []) low high fits more))))

-- the digits that stand are those of no number, or of one below the range
pub number_misses : (text : List ℕ) (at place low high : ℕ) (value : Option ℕ) → high < 2 ^ 64 → low ≤ high → IfSome value (λ v. v < low) → slice_range text at place ≡ digits_so_far value → StopsAt (IsDecimalIn low high) text at place → Misses (IsDecimalIn low high) text at place
number_misses text at place low high value fits range below is stops =
    record {
      stops = stops;
      none = λ end after within item.
          let bound = stops_bound (IsDecimalIn low high) text at place end stops within item in
          let split = slice_split text at end place after bound in
          let whole : decimal item.0 ++ slice_range text end place ≡ digits_so_far value = ap (λ front. front ++ slice_range text end place) (sym item.3) ∙ (sym split ∙ is) in
          apart value below item.0 (slice_range text end place) item.1 (omega (arith, item.2, fits)) whole;
    }
  where
    apart : (far : Option ℕ) → IfSome far (λ v. v < low) → (n : ℕ) (more : List ℕ) → low ≤ n → n < 2 ^ 64 → decimal n ++ more ≡ digits_so_far far → ⊥
    apart None less n more above inside same = absurd (omega (arith, ap length same, length-append (decimal n) more, decimal_nonempty n inside))
    apart (Some v) less n more above inside same = absurd (omega (arith, prefix_le n v more inside (omega (arith, less, range, fits)) same, less, above))
