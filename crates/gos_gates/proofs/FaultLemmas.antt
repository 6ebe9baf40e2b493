-- Where small texts break off.
use Rattle.std.proofs.Common.{◌≡◌, inr, ℕ, zero, suc, ◌+◌, ◌-◌, ◌^◌, ◌<◌, ◌≤◌, List, [], ◌∷◌, ◌++◌, length, codes, get_or, inl, refl, sym, ◌∙◌, ap, arith}
use Rattle.std.specs.Fmt.{decimal, digits}
use Rattle.std.specs.List.{slice_range}
use Rattle.std.proofs.lemmas.Bool.{cases_lt}
use Rattle.std.proofs.lemmas.Fmt.{decimal_injective}
use Rattle.gos_lex.specs.Items.{IsJust, TextAt, Passes, Misses}
use Rattle.gos_lex.specs.Decimals.{IsDecimalIn}
use Rattle.gos_lex.proofs.DecimalLemmas.{zero_stops}
use Rattle.gos_lex.proofs.NumberTextLemmas.{number_not_ended}
use Rattle.gos_gates.specs.AagFaults.{HasFault}
use Rattle.gos_lex.specs.ItemTexts.{ended, IsFixed, IsNumberText}
use Rattle.gos_lex.proofs.PlaceLemmas.{length_slice, slice_cons, slice_nothing}
use Rattle.gos_gates.specs.AagText.{last}
use Rattle.gos_gates.specs.SmallCircuits.{SmallFaults}
use Rattle.gos_gates.specs.declared.fault.AagFault.TheVariants as faults
use Rattle.gos_gates.specs.inner.Shapes.{Shape, Number, Leads, lines_shape, behind_outputs, behind_latches, behind_inputs, behind_variables, counts_shape, whole_shape}
use Rattle.gos_gates.proofs.ShapeLemmas.{word_passed, word_missed, number_passed, number_missed, leads_on, breaks_on}
use Rattle.gos_gates.proofs.ReadLemmas.{breaks_off}

-- a cursor in a text
abbrev cursor : List ℕ → ℕ → TextAt
cursor text at = record { text = text; at = at }

-- `aag ` is passed
begun : (text : List ℕ) → 4 ≤ length text → slice_range text 0 4 ≡ codes "aag " → Leads (cursor text 0) (cursor text 4) whole_shape counts_shape
begun text long is =
    word_passed (cursor text 0) (cursor text 4) (codes "aag ") counts_shape (record { text = refl; after = omega arith; within = long; is = is })

-- one more count is passed
counted : (text : List ℕ) (from to high n : ℕ) (rest : ℕ → Shape) → Leads (cursor text 0) (cursor text from) whole_shape (Number high 32 rest)
    → high < 2 ^ 64 → n ≤ high → from ≤ to → to ≤ length text → slice_range text from to ≡ ended 32 (decimal n) → Leads (cursor text 0) (cursor text to) whole_shape (rest n)
counted text from to high n rest far fits inside after within is =
    leads_on (cursor text 0) (cursor text from) (cursor text to) whole_shape (Number high 32 rest) (rest n) far
    (number_passed (cursor text from) (cursor text to) high 32 n rest fits refl inside (record { text = refl; after = after; within = within; is = is }))

-- too few bytes are left for a part
too_short : (text part : List ℕ) (at end : ℕ) → at ≤ length text → end ≤ length text → length text < at + length part → slice_range text at end ≡ part → ⊥
too_short text part at end here within short is = omega (arith, length_slice text at end within, ap length is, here, within, short)

nothing_missed : Misses (IsFixed (codes "aag ")) [] 0 0
nothing_missed =
    record {
      stops = record { after = omega arith; within = omega arith; before = (codes "aag ", (tt, tt, refl)); stops = λ some longer. absurd (omega (arith, some)) };
      none = λ end after within item. too_short [] (codes "aag ") 0 end (omega arith) within (omega arith) item.2;
    }

-- the text that has more inputs than variables
abbrev inputs_text : List ℕ
inputs_text = codes "aag 2 3"

long_number : (n : ℕ) → n ≤ 2 → 2 ≤ length (ended 32 (decimal n))
unfolding digits
long_number zero few = omega arith
long_number (suc zero) few = omega arith
long_number (suc (suc zero)) few = omega arith
long_number (suc (suc (suc n))) few = absurd (omega (arith, few))

no_three : (n : ℕ) (more : List ℕ) → n ≤ 2 → 51 ∷ more ≡ ended 32 (decimal n) → ⊥
unfolding digits
no_three zero more few is = let head : 51 ≡ 48 = ap (λ bytes. get_or bytes 0 0) is in absurd (omega (arith, head))
no_three (suc zero) more few is = let head : 51 ≡ 49 = ap (λ bytes. get_or bytes 0 0) is in absurd (omega (arith, head))
no_three (suc (suc zero)) more few is = let head : 51 ≡ 50 = ap (λ bytes. get_or bytes 0 0) is in absurd (omega (arith, head))
no_three (suc (suc (suc n))) more few is = absurd (omega (arith, few))

three_missed : Misses (IsNumberText 0 2 32) inputs_text 6 6
three_missed =
    record {
      stops = record {
        after = omega arith;
        within = omega arith;
        before = (ended 32 (decimal 0), (0, (omega arith, omega arith), refl));
        stops = λ some longer. no_three longer.1.0 longer.0 longer.1.1.1 longer.1.2;
      };
      none = λ end after within item.
          let long = long_number item.0 item.1.1 in
          too_short inputs_text (ended 32 (decimal item.0)) 6 end (omega arith) within (omega (arith, long)) item.2;
    }

-- the text that has more gates than are left
abbrev gates_text : List ℕ
gates_text = codes "aag 2 1 1 1 1"

one_missed : Misses (IsFixed (last 0)) gates_text 12 12
unfolding digits
one_missed =
    record {
      stops = record {
        after = omega arith;
        within = omega arith;
        before = (last 0, (tt, tt, refl));
        stops = λ some longer. let head : 49 ≡ 48 = ap (λ bytes. get_or bytes 0 0) longer.1.2 in absurd (omega (arith, head));
      };
      none = λ end after within item. too_short gates_text (48 ∷ 10 ∷ []) 12 end (omega arith) within (omega arith) item.2;
    }

-- where another byte stands, no space does
no_space : (text : List ℕ) (at : ℕ) → at < length text → (get_or text at 0 ≡ 32 → ⊥) → Misses (IsJust (32 ∷ [])) text at at
no_space text at some other =
    record {
      stops = record {
        after = omega arith;
        within = omega (arith, some);
        before = (32 ∷ [], ap (λ front. front ++ 32 ∷ []) (slice_nothing text at));
        stops = λ inside longer.
            let cons = slice_cons text at (at + 1) (omega arith) (omega (arith, some)) in
            other (ap (λ bytes. get_or bytes 0 0) (sym (ap (λ front. front ++ longer.0) cons) ∙ longer.1));
      };
      none = λ end after within item.
          let long : at < end = omega (arith, length_slice text at end within, ap length item) in
          other (ap (λ bytes. get_or bytes 0 0) (sym (slice_cons text at end long within) ∙ item));
    }

-- the text whose first count begins with 0
abbrev zero_text : List ℕ
zero_text = codes "aag 02"

zero_passes : Passes (IsDecimalIn 0 2147483647) zero_text 4 5
unfolding digits
zero_passes = record { after = omega arith; within = omega arith; item = (0, omega arith, omega arith, refl); longest = longest }
  where
    longest : (end : ℕ) → end ≤ length zero_text → IsDecimalIn 0 2147483647 (slice_range zero_text 4 end) → end ≤ 5
    longest end within item =
        elim (cases_lt 5 end) [
          | inl past ↦
              let here : end ≡ 6 = omega (arith, past, within) in
              let known : 48 ∷ 50 ∷ [] ≡ decimal item.0 = ap (slice_range zero_text 4) (sym here) ∙ item.3 in
              absurd (zero_stops 50 ([], (item.0, omega arith, omega (arith, item.2), known)))
          | inr short ↦ short
        ]

-- the text whose first count leaves its range with its last digit
abbrev large_text : List ℕ
large_text = codes "aag 2147483648"

large_passes : Passes (IsDecimalIn 0 2147483647) large_text 4 13
unfolding digits
large_passes = record { after = omega arith; within = omega arith; item = (214748364, omega arith, omega arith, refl); longest = longest }
  where
    longest : (end : ℕ) → end ≤ length large_text → IsDecimalIn 0 2147483647 (slice_range large_text 4 end) → end ≤ 13
    longest end within item =
        elim (cases_lt 13 end) [
          | inl past ↦
              let here : end ≡ 14 = omega (arith, past, within) in
              let known : decimal 2147483648 ≡ decimal item.0 = ap (slice_range large_text 4) (sym here) ∙ item.3 in
              let same = decimal_injective 2147483648 item.0 (omega arith) (omega (arith, item.2)) known in
              absurd (omega (arith, same, item.2))
          | inr short ↦ short
        ]

-- the first count breaks off where it ends and no space follows
first_breaks : (text : List ℕ) (end n : ℕ) → 4 ≤ length text → slice_range text 0 4 ≡ codes "aag " → n ≤ 2147483647 → slice_range text 4 end ≡ decimal n
    → Passes (IsDecimalIn 0 2147483647) text 4 end → end < length text → (get_or text end 0 ≡ 32 → ⊥) → HasFault text (faults.Form end)
first_breaks text end n long is small number passes some other =
    breaks_off text (cursor text 0) (faults.Form end) refl refl
    (breaks_on (cursor text 0) (cursor text 4) whole_shape counts_shape end (begun text long is)
    (number_missed (cursor text 4) end 2147483647 32 behind_variables
    (number_not_ended 0 2147483647 32 text 4 end end n (omega arith) refl (omega arith) small number passes (no_space text end some other))))

pub small_faults : SmallFaults
unfolding digits
small_faults = (
  breaks_off [] (cursor [] 0) (faults.Form 0) refl refl (word_missed (cursor [] 0) 0 (codes "aag ") counts_shape nothing_missed),
  (
      let variables = counted inputs_text 4 6 2147483647 2 behind_variables (begun inputs_text (omega arith) refl) (omega arith) (omega arith) (omega arith) (omega arith) refl in
      breaks_off inputs_text (cursor inputs_text 0) (faults.Form 6) refl refl
      (breaks_on (cursor inputs_text 0) (cursor inputs_text 6) whole_shape (behind_variables 2) 6 variables (number_missed (cursor inputs_text 6) 6 2 32 (behind_inputs 2) three_missed))
      ),
  (
      let variables = counted gates_text 4 6 2147483647 2 behind_variables (begun gates_text (omega arith) refl) (omega arith) (omega arith) (omega arith) (omega arith) refl in
      let inputs = counted gates_text 6 8 2 1 (behind_inputs 2) variables (omega arith) (omega arith) (omega arith) (omega arith) refl in
      let latches = counted gates_text 8 10 (2 - 1) 1 (behind_latches 2 1) inputs (omega arith) (omega arith) (omega arith) (omega arith) refl in
      let outputs = counted gates_text 10 12 4294967295 1 (behind_outputs 2 1 1) latches (omega arith) (omega arith) (omega arith) (omega arith) refl in
      breaks_off gates_text (cursor gates_text 0) (faults.Form 12) refl refl
      (breaks_on (cursor gates_text 0) (cursor gates_text 12) whole_shape (behind_outputs 2 1 1 1) 12 outputs
      (word_missed (cursor gates_text 12) 12 (last (2 - 1 - 1)) (lines_shape (record { variables = 2; inputs = 1; latches = 1; outputs = 1 })) one_missed))
      ),
  first_breaks zero_text 5 0 (omega arith) refl (omega arith) refl zero_passes (omega arith) (λ same. let digit : 50 ≡ 32 = same in absurd (omega (arith, digit))),
  first_breaks large_text 13 214748364 (omega arith) refl (omega arith) refl large_passes (omega arith) (λ same. let digit : 56 ≡ 32 = same in absurd (omega (arith, digit))),
)
