-- Words one behind the other: where one breaks off, the whole does.
use Rattle.std.proofs.Common.{◌≡◌, ℕ, ◌+◌, ◌-◌, List, ◌++◌, length, take, drop, refl, sym, ◌∙◌, ap, subst, arith}
use Rattle.std.specs.List.{slice_range}
use Rattle.gos_lex.specs.Items.{TextAt, IsJust, Misses}
use Rattle.gos_lex.specs.ItemTexts.{Passed, IsFixed}
use Rattle.gos_lex.proofs.SequenceLemmas.{Then, misses_as, then_first, then_rest}
use Rattle.gos_verilog.specs.inner.Breaks.{Left, BreaksFrom}
use Rattle.gos_verilog.proofs.SlotLemmas.{no_word, fixed_code}

abbrev Both : List ℕ → List ℕ → List ℕ → Type 0
Both a b = Then (Unit {0}) (λ _. Unit {0}) (λ _. a) (λ _. IsFixed b)

joined : (a b bytes : List ℕ) → Both a b bytes → IsJust (a ++ b) bytes
joined a b bytes (u, rest, i, (v, j, end), whole) = whole ∙ ap (λ more. a ++ more) end

cut : (a b bytes : List ℕ) → IsJust (a ++ b) bytes → Both a b bytes
cut a b bytes is = (tt, b, tt, (tt, tt, refl), is)

pub first_word : (a b text : List ℕ) (at place : ℕ) → Misses (IsJust a) text at place → Misses (IsJust (a ++ b)) text at place
first_word a b text at place misses =
    misses_as (Both a b) (IsJust (a ++ b)) text at place (joined a b) (cut a b)
    (then_first (Unit {0}) (λ _. Unit {0}) (λ _. a) (λ _. IsFixed b) text at place (λ _ _. (b, (tt, tt, refl))) (no_word a text at place misses))

pub second_word : (a b : List ℕ) (old mid : TextAt) (place : ℕ) → Passed old mid a → Misses (IsJust b) mid.text mid.at place → Misses (IsJust (a ++ b)) old.text old.at place
second_word a b old mid place passed misses =
    misses_as (Both a b) (IsJust (a ++ b)) old.text old.at place (joined a b) (cut a b)
    (then_rest (Unit {0}) (λ _. Unit {0}) (λ _. a) (λ _. IsFixed b) old.text old.at mid.at place tt (fixed_code a) tt passed.after passed.within passed.is
    (subst (λ (text : List ℕ). Misses (IsFixed b) text mid.at place) passed.text (no_word b mid.text mid.at place misses)))

-- what is passed in the rest of a text is passed in the text
pub shift_passed : (text rest : List ℕ) (at len : ℕ) (word : List ℕ) → rest ≡ drop at text → at + length rest ≡ length text → Passed (record { text = rest; at = 0 }) (record { text = rest; at = len }) word
    → Passed (record { text = text; at = at }) (record { text = text; at = at + len }) word
shift_passed text rest at len word is size passed =
    let one : at + len - at ≡ len - 0 = omega arith in
    record {
      text = refl;
      after = omega arith;
      within = omega (arith, passed.within, size);
      is = (λ i. take (one i) (sym is i)) ∙ passed.is;
    }

pub shift_breaks : (L : Left) (text rest : List ℕ) (at place : ℕ) → rest ≡ drop at text → BreaksFrom L (record { text = rest; at = 0 }) place → BreaksFrom L (record { text = text; at = at }) (at + place)
shift_breaks L text rest at place is breaks =
    let known : BreaksFrom L (record { text = drop at text; at = 0 }) place = subst (λ (bytes : List ℕ). BreaksFrom L (record { text = bytes; at = 0 }) place) is breaks in
    (known.0, omega (arith, known.1), known.2)

-- so does what is missed there
pub shift_misses : (P : Left) (text rest : List ℕ) (at place : ℕ) → rest ≡ drop at text → at + length rest ≡ length text → Misses P rest 0 place → Misses P text at (at + place)
shift_misses P text rest at place is size misses =
    record {
      stops = record {
        after = omega arith;
        within = omega (arith, size, misses.stops.within);
        before = (misses.stops.before.0, subst (λ (part : List ℕ). P (part ++ misses.stops.before.0)) (part place (at + place) (omega arith)) misses.stops.before.1);
        stops = λ some longer.
            misses.stops.stops (omega (arith, some, size)) (longer.0, subst (λ (bytes : List ℕ). P (bytes ++ longer.0)) (sym (part (place + 1) (at + place + 1) (omega arith))) longer.1);
      };
      none = λ end above within item.
          misses.none (end - at) (omega arith) (omega (arith, within, above, size)) (subst P (sym (part (end - at) end (omega (arith, above)))) item);
    }
  where
    part : (n end : ℕ) → end - at ≡ n → slice_range rest 0 n ≡ slice_range text at end
    part n end e =
        let one : n - 0 ≡ end - at = omega (arith, e) in
        (λ i. take (one i) (is i))
