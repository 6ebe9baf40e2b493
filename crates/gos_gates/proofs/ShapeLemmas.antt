-- What is left of a shape behind what a cursor has passed.
--
-- Bytes of each shape are there, so that what breaks off inside one breaks off at the same place as a part of it.
use Rattle.std.proofs.Common.{◌≡◌, false, ℕ, suc, ◌^◌, ◌<◌, ◌≤◌, List, [], ◌++◌, length, refl, sym, ◌∙◌, ap, subst, arith, append_assoc}
use Rattle.std.specs.Char.{is_ascii_digit}
use Rattle.std.specs.Fmt.{decimal}
use Rattle.std.specs.List.{slice_range}
use Rattle.std.proofs.lemmas.List.{append_cancel_left}
use Rattle.gos_lex.specs.Items.{TextAt, Misses}
use Rattle.gos_lex.specs.ItemTexts.{Passed, ended, IsFixed, IsInRange, IsNumberText}
use Rattle.gos_lex.proofs.SequenceLemmas.{Then, IsCode, misses_as, then_first, then_rest}
use Rattle.gos_lex.proofs.NumberTextLemmas.{number_code}
use Rattle.gos_lex.proofs.PlaceLemmas.{slice_nothing, slice_split}
use Rattle.gos_gates.specs.inner.Shapes.{Shape, End, Word, Number, Says, HasShape, Leads, Breaks, BreaksOff}
use Rattle.gos_gates.specs.declared.fault.AagFault.{AagFault}
use Rattle.gos_gates.specs.declared.fault.AagFault.TheVariants as faults

-- bytes of a shape
completes : (s : Shape) → (bytes : List ℕ) × HasShape s bytes
completes (End a) = ([], (a, (refl, refl)))
completes (Word word rest) = let next = completes rest in (word ++ next.0, (next.1.0, (next.0, next.1.1, refl)))
completes (Number high end rest) =
    let next = completes (rest 0) in (ended end (decimal 0) ++ next.0, (next.1.0, (0, next.0, omega arith, next.1.1, refl)))

-- the same as a sequence of two items
abbrev WordThen : List ℕ → Shape → List ℕ → Type 0
WordThen word rest = Then (Unit {0}) (λ _. Unit {0}) (λ _. word) (λ _. HasShape rest)

abbrev NumberThen : ℕ → ℕ → (ℕ → Shape) → List ℕ → Type 0
NumberThen high end rest = Then ℕ (IsInRange 0 high) (λ n. ended end (decimal n)) (λ n. HasShape (rest n))

word_joined : (word : List ℕ) (rest : Shape) (bytes : List ℕ) → WordThen word rest bytes → HasShape (Word word rest) bytes
word_joined word rest bytes (u, more, is, (b, says), whole) = (b, (more, says, whole))

word_cut : (word : List ℕ) (rest : Shape) (bytes : List ℕ) → HasShape (Word word rest) bytes → WordThen word rest bytes
word_cut word rest bytes (b, (more, says, whole)) = (tt, more, tt, (b, says), whole)

number_joined : (high end : ℕ) (rest : ℕ → Shape) (bytes : List ℕ) → NumberThen high end rest bytes → HasShape (Number high end rest) bytes
number_joined high end rest bytes (n, more, range, (b, says), whole) = (b, (n, more, range.1, says, whole))

number_cut : (high end : ℕ) (rest : ℕ → Shape) (bytes : List ℕ) → HasShape (Number high end rest) bytes → NumberThen high end rest bytes
number_cut high end rest bytes (b, (n, more, within, says, whole)) = (n, more, (omega arith, within), (b, says), whole)

fixed_code : (bytes : List ℕ) → IsCode (Unit {0}) (λ _. Unit {0}) (λ _. bytes)
fixed_code bytes v w x y is_v is_w same = (refl, append_cancel_left bytes x y same)

-- fixed bytes are passed
pub word_passed : (old new : TextAt) (word : List ℕ) (rest : Shape) → Passed old new word → Leads old new (Word word rest) rest
word_passed old new word rest passed =
    record {
      text = passed.text;
      after = passed.after;
      within = passed.within;
      says = λ b more says. (more, says, ap (λ front. front ++ more) passed.is);
      cut = λ b more says.
          let same = append_cancel_left word says.0 more (sym says.2 ∙ ap (λ front. front ++ more) passed.is) in
          subst (Says rest b) same says.1;
      breaks = λ place misses.
          misses_as (WordThen word rest) (HasShape (Word word rest)) old.text old.at place (word_joined word rest) (word_cut word rest)
          (then_rest (Unit {0}) (λ _. Unit {0}) (λ _. word) (λ _. HasShape rest) old.text old.at new.at place tt (fixed_code word) tt passed.after passed.within passed.is misses);
    }

-- fixed bytes don't stand there
pub word_missed : (old : TextAt) (place : ℕ) (word : List ℕ) (rest : Shape) → Misses (IsFixed word) old.text old.at place → Breaks (Word word rest) old place
word_missed old place word rest misses =
    misses_as (WordThen word rest) (HasShape (Word word rest)) old.text old.at place (word_joined word rest) (word_cut word rest)
    (then_first (Unit {0}) (λ _. Unit {0}) (λ _. word) (λ _. HasShape rest) old.text old.at place (λ v is. completes rest) misses)

-- a number is passed
pub number_passed : (old new : TextAt) (high end n : ℕ) (rest : ℕ → Shape) → high < 2 ^ 64 → is_ascii_digit end ≡ false → n ≤ high
    → Passed old new (ended end (decimal n)) → Leads old new (Number high end rest) (rest n)
number_passed old new high end n rest fits no_digit inside passed =
    record {
      text = passed.text;
      after = passed.after;
      within = passed.within;
      says = λ b more says. (n, more, inside, says, ap (λ front. front ++ more) passed.is);
      cut = λ b more says.
          let known = number_code 0 high end fits no_digit n says.0 more says.1 (omega arith, inside) (omega arith, says.2) (ap (λ front. front ++ more) (sym passed.is) ∙ says.4) in
          subst (λ (m : ℕ). Says (rest m) b more) (sym known.0) (subst (Says (rest says.0) b) (sym known.1) says.3);
      breaks = λ place misses.
          misses_as (NumberThen high end rest) (HasShape (Number high end rest)) old.text old.at place (number_joined high end rest) (number_cut high end rest)
          (then_rest ℕ (IsInRange 0 high) (λ m. ended end (decimal m)) (λ m. HasShape (rest m)) old.text old.at new.at place n (number_code 0 high end fits no_digit) (omega arith, inside) passed.after passed.within passed.is misses);
    }

-- no such number stands there
pub number_missed : (old : TextAt) (place high end : ℕ) (rest : ℕ → Shape) → Misses (IsNumberText 0 high end) old.text old.at place → Breaks (Number high end rest) old place
number_missed old place high end rest misses =
    misses_as (NumberThen high end rest) (HasShape (Number high end rest)) old.text old.at place (number_joined high end rest) (number_cut high end rest)
    (then_first ℕ (IsInRange 0 high) (λ n. ended end (decimal n)) (λ n. HasShape (rest n)) old.text old.at place (λ n is. completes (rest n)) misses)

-- a number that is the only one of its range, as fixed bytes
pub exactly_missed : (old : TextAt) (place k end : ℕ) (rest : Shape) → Misses (IsNumberText k k end) old.text old.at place → Breaks (Word (ended end (decimal k)) rest) old place
exactly_missed old place k end rest misses = word_missed old place (ended end (decimal k)) rest (misses_as (IsNumberText k k end) (IsFixed (ended end (decimal k))) old.text old.at place to from misses)
  where
    to : (bytes : List ℕ) → IsNumberText k k end bytes → IsFixed (ended end (decimal k)) bytes
    to bytes (n, range, whole) = let same : n ≡ k = omega (arith, range.0, range.1) in (tt, tt, whole ∙ ap (λ (m : ℕ). ended end (decimal m)) same)

    from : (bytes : List ℕ) → IsFixed (ended end (decimal k)) bytes → IsNumberText k k end bytes
    from bytes (u, is, whole) = (k, (omega arith, omega arith), whole)

-- nothing is passed
pub stands : (old : TextAt) (s : Shape) → old.at ≤ length old.text → Leads old old s s
stands old s within =
    record {
      text = refl;
      after = omega arith;
      within = within;
      says = λ b more says. subst (λ (front : List ℕ). Says s b (front ++ more)) (sym (slice_nothing old.text old.at)) says;
      cut = λ b more says. subst (λ (front : List ℕ). Says s b (front ++ more)) (slice_nothing old.text old.at) says;
      breaks = λ place misses. misses;
    }

-- two parts, one behind the other
parts : (text : List ℕ) (a b d : ℕ) (more : List ℕ) → a ≤ b → b ≤ d → slice_range text a d ++ more ≡ slice_range text a b ++ (slice_range text b d ++ more)
parts text a b d more first second =
    ap (λ front. front ++ more) (slice_split text a b d first second) ∙ append_assoc (slice_range text a b) (slice_range text b d) more

-- one part is passed behind another
pub leads_on : (old mid new : TextAt) (s t u : Shape) → Leads old mid s t → Leads mid new t u → Leads old new s u
leads_on old mid new s t u first second =
    record {
      text = second.text ∙ first.text;
      after = omega (arith, first.after, second.after);
      within = subst (λ (text : List ℕ). new.at ≤ length text) first.text second.within;
      says = λ b more says.
          let rest = subst (λ (text : List ℕ). Says t b (slice_range text mid.at new.at ++ more)) first.text (second.says b more says) in
          let whole = first.says b (slice_range old.text mid.at new.at ++ more) rest in
          subst (Says s b) (sym (parts old.text old.at mid.at new.at more first.after second.after)) whole;
      cut = λ b more says.
          let rest = first.cut b (slice_range old.text mid.at new.at ++ more) (subst (Says s b) (parts old.text old.at mid.at new.at more first.after second.after) says) in
          second.cut b more (subst (λ (text : List ℕ). Says t b (slice_range text mid.at new.at ++ more)) (sym first.text) rest);
      breaks = λ place misses.
          let here = subst (λ (text : List ℕ). Misses (HasShape u) text new.at place) (sym first.text) misses in
          first.breaks place (subst (λ (text : List ℕ). Misses (HasShape t) text mid.at place) first.text (second.breaks place here));
    }

-- what breaks off behind a part
pub breaks_on : (old mid : TextAt) (s t : Shape) (place : ℕ) → Leads old mid s t → Breaks t mid place → Breaks s old place
breaks_on old mid s t place first breaks = first.breaks place (subst (λ (text : List ℕ). Misses (HasShape t) text mid.at place) first.text breaks)

-- the same of a fault
pub breaks_off_on : (old mid : TextAt) (s t : Shape) (fault : AagFault) → Leads old mid s t → BreaksOff t mid fault → BreaksOff s old fault
breaks_off_on old mid s t (faults.Form place) first breaks = breaks_on old mid s t place first breaks
breaks_off_on old mid s t faults.NoMemory first any = tt

-- a line is passed, where so many are left
pub one_more : (old mid new : TextAt) (s u : Shape) (shape : ℕ → Shape) (before left : ℕ) → before ≡ suc left → Leads old mid s (shape before)
    → Leads mid new (shape (suc left)) u → Leads old new s u
one_more old mid new s u shape before left fewer far step =
    leads_on old mid new s (shape (suc left)) u (subst (λ (k : ℕ). Leads old mid s (shape k)) fewer far) step

-- a line breaks off, where so many are left
pub no_more : (old mid : TextAt) (s : Shape) (shape : ℕ → Shape) (before left place : ℕ) → before ≡ suc left → Leads old mid s (shape before)
    → Breaks (shape (suc left)) mid place → Breaks s old place
no_more old mid s shape before left place fewer far breaks =
    breaks_on old mid s (shape (suc left)) place (subst (λ (k : ℕ). Leads old mid s (shape k)) fewer far) breaks

-- no line is left
pub none_left : (old new : TextAt) (s : Shape) (shape : ℕ → Shape) (left : ℕ) → left ≡ 0 → Leads old new s (shape left) → Leads old new s (shape 0)
none_left old new s shape left none far = subst (λ (k : ℕ). Leads old new s (shape k)) none far

-- the cursor is within the text
pub leads_within : (old new : TextAt) (s t : Shape) → Leads old new s t → new.at ≤ length new.text
leads_within old new s t leads = subst (λ (text : List ℕ). new.at ≤ length text) (sym leads.text) leads.within
