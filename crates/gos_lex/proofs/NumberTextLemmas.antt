-- A number and the byte that ends it: where the number is whole the digits behind it begin no longer one.
use Rattle.std.proofs.Common.{◌≡◌, ◌≢◌, inl, inr, ℕ, ◌+◌, ◌-◌, ◌*◌, ◌^◌, ◌<◌, ◌≤◌, true, false, List, [], ◌∷◌, ◌++◌, length, get_or, sym, ◌∙◌, ap, subst, arith, append_assoc, append-nil, length-append, refl}
use Rattle.std.specs.Char.{is_ascii_digit}
use Rattle.std.specs.Fmt.{decimal}
use Rattle.std.specs.List.{slice_range}
use Rattle.std.proofs.lemmas.Bool.{cases_lt}
use Rattle.std.proofs.lemmas.Fmt.{decimal_injective}
use Rattle.gos_lex.specs.Items.{IsJust, Begins, Passes, StopsAt, Misses, TextAt}
use Rattle.gos_lex.specs.Decimals.{IsDecimalIn}
use Rattle.gos_lex.proofs.PlaceLemmas.{length_slice, slice_cons, slice_nothing, slice_snoc, slice_split}
use Rattle.gos_lex.proofs.DecimalLemmas.{begins_wider, begins_le, digit_within, zero_stops, digit_more, digit_too_many}
use Rattle.gos_lex.specs.ItemTexts.{NoCount, IsTextOf, IsInRange, IsNumberText, ended, IsAbove}
use Rattle.gos_lex.proofs.SequenceLemmas.{Lacks, IsCode, slice_front, same_fronts, ended_misses, ended_code}

-- a number with a digit more that begins one of the range is one of the range
digit_more_is : (low high n b : ℕ) → high < 2 ^ 64 → low ≤ n → n ≤ high → Begins (IsDecimalIn low high) (decimal n ++ b ∷ []) → IsDecimalIn low high (decimal n ++ b ∷ [])
digit_more_is low high n b fits above under begins =
    let wide = begins_wider (decimal n ++ b ∷ []) low high fits begins in
    let digit : is_ascii_digit b ≡ true = digit_within (decimal n) b wide in
    let small : n < 2 ^ 64 = omega (arith, under, fits) in
    let some : n ≢ 0 = λ none. zero_stops b (subst (λ (m : ℕ). Begins (IsDecimalIn 0 (2 ^ 64 - 1)) (decimal m ++ b ∷ [])) none wide) in
    elim (cases_lt (10 * n + (b - 48)) (2 ^ 64)) [
      | inl inside ↦
          let same : decimal n ++ b ∷ [] ≡ decimal (10 * n + (b - 48)) = digit_more n b digit some inside in
          let bound : 10 * n + (b - 48) ≤ high = begins_le (10 * n + (b - 48)) low high inside fits (subst (Begins (IsDecimalIn low high)) same begins) in
          (10 * n + (b - 48), omega (arith, above), bound, same)
      | inr great ↦ absurd (digit_too_many n b small great wide)
    ]

-- behind the longest number stands no digit with which a longer one begins
pub number_stops : (text : List ℕ) (at end low high n : ℕ) → high < 2 ^ 64 → low ≤ n → n ≤ high → slice_range text at end ≡ decimal n
    → Passes (IsDecimalIn low high) text at end → StopsAt (IsDecimalIn low high) text at end
number_stops text at end low high n fits above under is passes =
    record {
      after = passes.after;
      within = passes.within;
      before = ([], (n, above, under, append-nil (slice_range text at end) ∙ is));
      stops = λ some longer.
          let part : slice_range text at (end + 1) ≡ decimal n ++ get_or text end 0 ∷ [] =
          slice_snoc text at end passes.after some ∙ ap (λ front. front ++ get_or text end 0 ∷ []) is in
          let item = digit_more_is low high n (get_or text end 0) fits above under (subst (Begins (IsDecimalIn low high)) part longer) in
          let bound = passes.longest (end + 1) (omega (arith, some)) (subst (IsDecimalIn low high) (sym part) item) in
          omega (arith, bound);
    }

as_decimal : (low high : ℕ) (bytes : List ℕ) → IsTextOf ℕ (IsInRange low high) decimal bytes → IsDecimalIn low high bytes
as_decimal low high bytes item = (item.0, item.1.0, item.1.1, item.2)

of_decimal : (low high : ℕ) (bytes : List ℕ) → IsDecimalIn low high bytes → IsTextOf ℕ (IsInRange low high) decimal bytes
of_decimal low high bytes item = (item.0, (item.1, item.2), item.3)

number_lacks : (low high c : ℕ) → high < 2 ^ 64 → is_ascii_digit c ≡ false → Lacks (IsTextOf ℕ (IsInRange low high) decimal) c
number_lacks low high c fits no_digit front more item =
    let begins : Begins (IsDecimalIn low high) (front ++ c ∷ []) = (more, subst (IsDecimalIn low high) (sym (append_assoc front (c ∷ []) more)) (as_decimal low high _ item)) in
    let digit : is_ascii_digit c ≡ true = digit_within front c (begins_wider (front ++ c ∷ []) low high fits begins) in
    cc (digit, no_digit)

pub number_code : (low high c : ℕ) → high < 2 ^ 64 → is_ascii_digit c ≡ false → IsCode ℕ (IsInRange low high) (λ n. ended c (decimal n))
number_code low high c fits no_digit =
    ended_code ℕ (IsInRange low high) decimal c (number_lacks low high c fits no_digit)
    (λ m n is_m is_n same. decimal_injective m n (omega (arith, is_m.1, fits)) (omega (arith, is_n.1, fits)) same)

stops_of : (low high : ℕ) (text : List ℕ) (at place : ℕ) → StopsAt (IsDecimalIn low high) text at place → StopsAt (IsTextOf ℕ (IsInRange low high) decimal) text at place
stops_of low high text at place stops =
    record {
      after = stops.after;
      within = stops.within;
      before = (stops.before.0, of_decimal low high _ stops.before.1);
      stops = λ some longer. stops.stops some (longer.0, as_decimal low high _ longer.1);
    }

-- no number stands
pub no_number : (low high c : ℕ) (text : List ℕ) (at place : ℕ) → high < 2 ^ 64 → is_ascii_digit c ≡ false
    → Misses (IsDecimalIn low high) text at place → Misses (IsNumberText low high c) text at place
no_number low high c text at place fits no_digit misses =
    ended_misses ℕ (IsInRange low high) decimal c text at place (number_lacks low high c fits no_digit)
    (λ some byte item. misses.none place misses.stops.after misses.stops.within (as_decimal low high _ item))
    (stops_of low high text at place misses.stops)

-- a byte that doesn't stand is missed where it should stand
pub byte_missed : (text : List ℕ) (at place c : ℕ) → Misses (IsJust (c ∷ [])) text at place → (place ≡ at) × (at < length text → get_or text at 0 ≡ c → ⊥)
byte_missed text at place c misses = (here, differs)
  where
    stands : at < length text → get_or text at 0 ≡ c → slice_range text at (at + 1) ≡ c ∷ []
    stands some byte = slice_cons text at (at + 1) (omega arith) (omega (arith, some)) ∙ (λ i. byte i ∷ slice_nothing text (at + 1) i)

    differs : at < length text → get_or text at 0 ≡ c → ⊥
    differs some byte = misses.none (at + 1) (omega arith) (omega (arith, some)) (stands some byte)

    one : (bytes more : List ℕ) → bytes ++ more ≡ c ∷ [] → length bytes ≤ 1
    one bytes more is = omega (arith, ap length is, length-append bytes more)

    whole : (bytes more : List ℕ) → bytes ++ more ≡ c ∷ [] → length bytes ≡ 1 → bytes ≡ c ∷ []
    whole [] more is long = absurd (omega (arith, long))
    whole (b ∷ []) more is long = let byte : b ≡ c = cc is in (λ i. byte i ∷ [])
    whole (b ∷ d ∷ bytes) more is long = absurd (omega (arith, long))

    here : place ≡ at
    here =
        let size = length_slice text at place misses.stops.within in
        let short = one (slice_range text at place) misses.stops.before.0 misses.stops.before.1 in
        elim (cases_lt at place) [
          | inl past ↦
              let long : length (slice_range text at place) ≡ 1 = omega (arith, size, short, past) in
              absurd (misses.none place misses.stops.after misses.stops.within (whole (slice_range text at place) misses.stops.before.0 misses.stops.before.1 long))
          | inr before ↦ omega (arith, before, misses.stops.after)
        ]

-- a number stands, but not the byte behind it
pub number_not_ended : (low high c : ℕ) (text : List ℕ) (at end place n : ℕ) → high < 2 ^ 64 → is_ascii_digit c ≡ false → low ≤ n → n ≤ high → slice_range text at end ≡ decimal n
    → Passes (IsDecimalIn low high) text at end → Misses (IsJust (c ∷ [])) text end place → Misses (IsNumberText low high c) text at place
number_not_ended low high c text at end place n fits no_digit above under is passes misses =
    let known = byte_missed text end place c misses in
    subst (Misses (IsNumberText low high c) text at) (sym known.0)
    (ended_misses ℕ (IsInRange low high) decimal c text at end (number_lacks low high c fits no_digit) (λ some byte item. known.1 some byte)
    (stops_of low high text at end (number_stops text at end low high n fits above under is passes)))

-- no longer number stands where a number has a line feed behind it
pub no_longer_number : (text : List ℕ) (a b n : ℕ) (rest : List ℕ) → n ≤ 4294967295 → a ≤ b → b ≤ length text → slice_range text a b ≡ decimal n ++ 10 ∷ rest
    → Passes (IsDecimalIn 0 4294967295) text a (a + length (decimal n))
no_longer_number text a b n rest small after within whole =
    let front = slice_front text a b (decimal n) (10 ∷ rest) after within whole in
    let mid : ℕ = a + length (decimal n) in
    record {
      after = omega arith;
      within = omega (arith, front.0, within);
      item = (n, omega arith, small, front.1);
      longest = longest front.0 front.1;
    }
  where
    longest : a + length (decimal n) ≤ b → slice_range text a (a + length (decimal n)) ≡ decimal n → (end : ℕ) → end ≤ length text → IsDecimalIn 0 4294967295 (slice_range text a end) → end ≤ a + length (decimal n)
    longest inside is end below item =
        elim (cases_lt (a + length (decimal n)) end) [
          | inl past ↦
              let mid : ℕ = a + length (decimal n) in
              let size = length_slice text a b within in
              let some : mid < b = omega (arith, size, ap length whole, length-append (decimal n) (10 ∷ rest)) in
              let split = slice_split text a mid end (omega arith) (omega (arith, past)) in
              let known = same_fronts (slice_range text a mid) (slice_range text mid b) (decimal n) (10 ∷ rest) (sym (slice_split text a mid b (omega arith) inside) ∙ whole) (ap length is) in
              let byte : get_or text mid 0 ≡ 10 = ap (λ bytes. get_or bytes 0 0) (sym (slice_cons text mid b some within) ∙ known.1) in
              let parts : slice_range text a end ≡ decimal n ++ 10 ∷ slice_range text (mid + 1) end =
              split ∙ (λ i. is i ++ (slice_cons text mid end past below ∙ ap (λ (d : ℕ). d ∷ slice_range text (mid + 1) end) byte) i) in
              absurd (number_lacks 0 4294967295 10 (omega arith) refl (decimal n) (slice_range text (mid + 1) end) (of_decimal 0 4294967295 (decimal n ++ 10 ∷ slice_range text (mid + 1) end) (subst (IsDecimalIn 0 4294967295) parts item)))
          | inr short ↦ short
        ]

-- a count that is read as this number is not above a limit that this number is not above
pub number_under : (limit n : ℕ) (text : List ℕ) (at end : ℕ) → n ≤ limit → n ≤ 4294967295 → slice_range text at end ≡ decimal n → Passes (IsDecimalIn 0 4294967295) text at end → IsAbove limit text at → ⊥
number_under limit n text at end under small is passes above =
    let same : above.end ≡ end =
    omega (arith, passes.longest above.end above.passes.within above.passes.item, above.passes.longest end passes.within passes.item) in
    let digits : decimal above.count ≡ decimal n = sym above.value ∙ (ap (slice_range text at) same ∙ is) in
    let equal = decimal_injective above.count n (omega (arith, above.known)) (omega (arith, small)) digits in
    omega (arith, equal, under, above.above)

-- no number stands
pub count_misses : (limit : ℕ) (text : List ℕ) (at place : ℕ) → Misses (IsDecimalIn 0 4294967295) text at place → NoCount limit text at place
count_misses limit text at place misses = (
  no_number 0 4294967295 10 text at place (omega arith) refl misses,
  λ above. misses.none above.end above.passes.after above.passes.within above.passes.item,
)

-- a number stands, but no line feed behind it
pub count_not_ended : (limit n : ℕ) (old mid : TextAt) (place : ℕ) → n ≤ limit → n ≤ 4294967295 → mid.text ≡ old.text → slice_range old.text old.at mid.at ≡ decimal n
    → Passes (IsDecimalIn 0 4294967295) old.text old.at mid.at → Misses (IsJust (10 ∷ [])) mid.text mid.at place → NoCount limit old.text old.at place
count_not_ended limit n old mid place under small text is passes misses = (
  number_not_ended 0 4294967295 10 old.text old.at mid.at place n (omega arith) refl (omega arith) small is passes (subst (λ (source : List ℕ). Misses (IsJust (10 ∷ [])) source mid.at place) text misses),
  number_under limit n old.text old.at mid.at under small is passes,
)
