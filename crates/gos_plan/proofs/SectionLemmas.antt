-- A section: a word, a count, and so many lines.
use Rattle.std.proofs.Common.{◌≡◌, ℕ, ◌+◌, ◌≤◌, List, [], ◌∷◌, length, refl, sym, ◌∙◌, subst, arith}
use Rattle.std.specs.Fmt.{decimal}
use Rattle.std.specs.List.{slice_range}
use Rattle.gos_lex.specs.Items.{TextAt, IsJust, Passes, Misses}
use Rattle.gos_lex.specs.Decimals.{IsDecimalIn}
use Rattle.gos_lex.proofs.NumberTextLemmas.{number_code, no_longer_number, count_misses, count_not_ended, number_under}
use Rattle.gos_plan.specs.declared.fault.ObjectFault.{ObjectFault}
use Rattle.gos_plan.specs.declared.fault.ObjectFault.TheVariants as faults
use Rattle.gos_plan.specs.TextItems.{Item, Reads, Fails, both, exactly, count_up_to, lines, section}
use Rattle.gos_plan.proofs.TextLemmas.{Lawful, Via, lawful_both, lawful_exactly, lawful_lines, via_lawful, via_fails, first_fails, rest_fails, both_read, reads_as, span_front}
use Rattle.gos_plan.proofs.ItemLemmas.{passed_then}

pub lawful_count : (limit : ℕ) → Lawful (count_up_to limit)
lawful_count limit =
    record {
      code = number_code 0 4294967295 10 (omega arith) refl;
      some = 0;
      some_is = (omega arith, omega arith);
      under = λ source at mid place n is few spans over.
          let front = span_front source at mid (decimal n) (10 ∷ []) spans in
          number_under limit n source at (at + length (decimal n)) few is.1 front.0.is (no_longer_number source at mid n [] is.1 spans.after spans.within spans.is) over.1;
      one = λ source at p q over other. over.0 ∙ sym other.0;
    }

-- no number stands
pub no_count : (limit : ℕ) (text : List ℕ) (at place : ℕ) → Misses (IsDecimalIn 0 4294967295) text at place → Fails (count_up_to limit) text at (faults.Form place)
no_count limit text at place misses = let known = count_misses limit text at place misses in (known.0, λ p over. known.1 over.1)

-- a number stands, but no line feed behind it
pub not_ended : (limit n : ℕ) (old mid : TextAt) (place : ℕ) → n ≤ limit → n ≤ 4294967295 → mid.text ≡ old.text → slice_range old.text old.at mid.at ≡ decimal n
    → Passes (IsDecimalIn 0 4294967295) old.text old.at mid.at → Misses (IsJust (10 ∷ [])) mid.text mid.at place → Fails (count_up_to limit) old.text old.at (faults.Form place)
not_ended limit n old mid place under small text is passes misses =
    let known = count_not_ended limit n old mid place under small text is passes misses in
    (known.0, λ p over. known.1 over.1)

-- A section as its count and its lines.
abbrev pub Counted : ℕ → Item → Item
Counted limit A = both (count_up_to limit) (lines A)

section_via : (limit : ℕ) (A : Item) → Via (section limit A) (Counted limit A)
section_via limit A =
    record {
      into = λ vs. (length vs, vs);
      from = λ v. v.1;
      text = λ vs is. refl;
      is = λ vs is. ((omega arith, is.0), (refl, is.1));
      keeps = λ vs is keeps. keeps;
      back = λ vs is. refl;
      from_is = λ v is. (omega (arith, is.0.1, is.1.0), is.1.1);
      there = λ v is. (λ i. (is.1.0 i, v.1));
      over = λ source at place over. over;
      over_back = λ source at place over. over;
    }

pub lawful_section : (limit : ℕ) (A : Item) → Lawful A → Lawful (section limit A)
lawful_section limit A law = via_lawful (section limit A) (Counted limit A) (section_via limit A) (lawful_both (count_up_to limit) (lines A) (lawful_count limit) (λ n is. lawful_lines A law n))

-- behind its word
abbrev pub headed : List ℕ → ℕ → Item → Item
headed word limit A = both (exactly word) (λ u. section limit A)

pub lawful_headed : (word : List ℕ) (limit : ℕ) (A : Item) → Lawful A → Lawful (headed word limit A)
lawful_headed word limit A law = lawful_both (exactly word) (λ u. section limit A) (lawful_exactly word) (λ u is. lawful_section limit A law)

-- where the word fails, or the count, or the lines, the section does
pub word_fails : (word : List ℕ) (limit : ℕ) (A : Item) (source : List ℕ) (at : ℕ) (fault : ObjectFault) → Fails (exactly word) source at fault → Fails (headed word limit A) source at fault
word_fails word limit A = first_fails (exactly word) (λ u. section limit A) (λ u is. ([], (omega arith, tt)))

pub count_fails : (word : List ℕ) (limit : ℕ) (A : Item) → Lawful A → (old mid : TextAt) → Reads (exactly word) old mid tt → (fault : ObjectFault)
    → Fails (count_up_to limit) mid.text mid.at fault → Fails (headed word limit A) old.text old.at fault
count_fails word limit A law old mid read fault fails =
    rest_fails (exactly word) (λ u. section limit A) (lawful_exactly word) old mid tt read fault
    (via_fails (section limit A) (Counted limit A) (section_via limit A) mid.text mid.at fault
    (first_fails (count_up_to limit) (lines A) (λ n is. let some = lawful_lines A law n in (some.some, some.some_is)) mid.text mid.at fault fails))

pub lines_fail : (word : List ℕ) (limit : ℕ) (A : Item) (old mid last : TextAt) (n : ℕ) → Reads (exactly word) old mid tt → Reads (count_up_to limit) mid last n → (fault : ObjectFault)
    → Fails (lines A n) last.text last.at fault → Fails (headed word limit A) old.text old.at fault
lines_fail word limit A old mid last n read count fault fails =
    rest_fails (exactly word) (λ u. section limit A) (lawful_exactly word) old mid tt read fault
    (via_fails (section limit A) (Counted limit A) (section_via limit A) mid.text mid.at fault
    (rest_fails (count_up_to limit) (lines A) (lawful_count limit) mid last n count fault fails))

pub section_read : (word : List ℕ) (limit : ℕ) (A : Item) (old mid last new : TextAt) (n : ℕ) (vs : List A.Value) → Reads (exactly word) old mid tt → Reads (count_up_to limit) mid last n
    → Reads (lines A n) last new vs → Reads (headed word limit A) old new (tt, vs)
section_read word limit A old mid last new n vs read count rest =
    let whole = both_read (count_up_to limit) (lines A) mid last new n vs count rest in
    let counted = subst (λ (k : ℕ). Reads (Counted limit A) mid new (k, vs)) (sym rest.is.0) whole in
    both_read (exactly word) (λ u. section limit A) old mid new tt vs read
    (reads_as (section limit A) (Counted limit A) mid new vs (length vs, vs) refl (omega (arith, count.is.1, rest.is.0), rest.is.1) (omega (arith, count.keeps, rest.is.0), rest.keeps) counted)

-- what a count is read as
pub count_reads : (limit n : ℕ) (old mid new : TextAt) → n ≤ limit → n ≤ 4294967295 → mid.text ≡ old.text → new.text ≡ mid.text → slice_range old.text old.at mid.at ≡ decimal n
    → Passes (IsDecimalIn 0 4294967295) old.text old.at mid.at → Passes (IsJust (10 ∷ [])) mid.text mid.at new.at → Reads (count_up_to limit) old new n
count_reads limit n old mid new few small first second is passes last =
    record {
      same = second ∙ first;
      spans = passed_then (IsDecimalIn 0 4294967295) old mid new (decimal n) 10 first is passes last;
      is = (omega arith, small);
      keeps = few;
    }
