-- The text of a trace: a line for each label, and the last line.
use Rattle.std.proofs.Common.{◌≡◌, ◌⊎◌, inl, inr, ℕ, ◌+◌, ◌-◌, ◌^◌, ◌<◌, ◌≤◌, true, List, [], ◌∷◌, ◌++◌, length, get_or, refl, sym, ◌∙◌, ap, subst, arith, append_assoc, append-nil, length-append}
use Rattle.std.specs.Prelude.{codes}
use Rattle.std.specs.Char.{is_ascii_digit}
use Rattle.std.specs.Fmt.{decimal}
use Rattle.std.specs.List.{AllByRecursion, slice_range}
use Rattle.std.proofs.lemmas.Bool.{cases_lt}
use Rattle.std.proofs.lemmas.Fmt.{decimal_nonempty}
use Rattle.std.proofs.lemmas.List.{append_cancel_left}
use Rattle.gos_netlist.specs.NetText.{line}
use Rattle.gos_lex.specs.Items.{TextAt, IsJust, StopsAt, Misses}
use Rattle.gos_lex.specs.ItemTexts.{IsTextOf, IsInRange, IsNumberText, Passed, ended}
use Rattle.gos_lex.proofs.SequenceLemmas.{IsCode, misses_as}
use Rattle.gos_lex.proofs.PlaceLemmas.{length_slice, slice_cons, slice_nothing, slice_split}
use Rattle.gos_lex.proofs.DecimalLemmas.{digit_within}
use Rattle.gos_lex.proofs.NumberTextLemmas.{number_code}
use Rattle.gos_witness.specs.declared.entry.Entry.{Entry}
use Rattle.gos_witness.specs.declared.entry.Entry.TheVariants.{Pulse, Last}
use Rattle.gos_witness.specs.declared.fault.ExplainFault.{ExplainFault}
use Rattle.gos_witness.specs.declared.fault.ExplainFault.TheVariants as faults
use Rattle.gos_witness.specs.declared.labels.Label.{Label}
use Rattle.gos_witness.specs.declared.program.ProgramPort.{ProgramPort}
use Rattle.gos_witness.specs.TextFaults.{IsFormFault}
use Rattle.gos_witness.specs.TraceText.{label_text, IsLabel, label_line, LinesText, IsTraceFrom, IsTraceTextOf, IsTraceText}
use Rattle.gos_witness.specs.Ports.{ArePorts}
use Rattle.gos_witness.specs.inner.Left.{HasLeft, Behind, End, Leads, Breaks}
use Rattle.gos_witness.specs.inner.Parts.{BreaksOff}
use Rattle.gos_witness.specs.inner.TraceParts.{IsNamed, IsEntry, entry_text, IsEntryText, LabelLeft, PulseLeft, BehindCycle, LastLeft, BehindWord, TraceLeft, EntryLeft}
use Rattle.gos_witness.proofs.LeftLemmas.{Stage, fixed_code, item_passed, item_missed, stands, leads_on, breaks_on, passed_end, all_passed, breaks_off, left_over}
use Rattle.gos_witness.proofs.EventLemmas.{label_code, some_label}

-- the line of a label by its cycle and its label
pulse_parts : (ports : List ProgramPort) (t : ℕ) (o : Label) → label_line ports t o ≡ ended 32 (decimal t) ++ line (label_text ports o)
pulse_parts ports t o = append_assoc (decimal t ++ codes " ") (label_text ports o) (10 ∷ [])

abbrev cycle_text : ℕ → List ℕ
cycle_text t = ended 32 (decimal t)

abbrev count_text : ℕ → List ℕ
count_text n = ended 10 (decimal n)

-- by its cycle
cycle_stage : (ports : List ProgramPort) (from : ℕ) → ArePorts ports → Stage Entry ℕ (PulseLeft ports from) (IsInRange from 999999) cycle_text (BehindCycle ports)
cycle_stage ports from are =
    record {
      to = to;
      from = back;
      code = number_code from 999999 32 (omega arith) refl;
      completes = λ t range.
          let o = some_label ports are in
          (line (label_text ports o.0), (Pulse t o.0, (refl, o.1, refl)));
    }
  where
    to : (e : Entry) (bytes : List ℕ) → PulseLeft ports from e bytes → Behind Entry ℕ (IsInRange from 999999) cycle_text (BehindCycle ports) e bytes
    to (Pulse t o) bytes ((above, below, is), same) = (t, line (label_text ports o), (above, below), (refl, is, refl), same ∙ pulse_parts ports t o)
    to (Last n) bytes none = absurd none

    back : (e : Entry) (bytes : List ℕ) → Behind Entry ℕ (IsInRange from 999999) cycle_text (BehindCycle ports) e bytes → PulseLeft ports from e bytes
    back (Pulse u o) bytes (t, more, range, (here, is, left), same) = (
      (omega (arith, range.0, here), omega (arith, range.1, here), is),
      same ∙ ((λ i. cycle_text (sym here i) ++ left i) ∙ sym (pulse_parts ports u o)),
    )
    back (Last n) bytes (t, more, range, none, same) = absurd none

-- by its label
label_stage : (ports : List ProgramPort) (t : ℕ) → AllByRecursion IsNamed ports → ArePorts ports
    → Stage Entry Label (BehindCycle ports t) (IsLabel ports) (λ o. line (label_text ports o)) (λ o. End Entry (Pulse t o))
label_stage ports t named are =
    record {
      to = to;
      from = back;
      code = label_code ports named are;
      completes = λ o is. ([], (Pulse t o, (refl, refl)));
    }
  where
    to : (e : Entry) (bytes : List ℕ) → BehindCycle ports t e bytes → Behind Entry Label (IsLabel ports) (λ o. line (label_text ports o)) (λ o. End Entry (Pulse t o)) e bytes
    to (Pulse u o) bytes (here, is, same) = (o, [], is, (ap (λ (n : ℕ). Pulse n o) here, refl), same ∙ sym (append-nil (line (label_text ports o))))
    to (Last n) bytes none = absurd none

    back : (e : Entry) (bytes : List ℕ) → Behind Entry Label (IsLabel ports) (λ o. line (label_text ports o)) (λ o. End Entry (Pulse t o)) e bytes → BehindCycle ports t e bytes
    back e bytes (o, more, is, (whole, nothing), same) =
        subst (λ (entry : Entry). BehindCycle ports t entry bytes) (sym whole)
        (refl, is, same ∙ ((λ i. line (label_text ports o) ++ nothing i) ∙ append-nil (line (label_text ports o))))

-- The last line.

word_stage : (from : ℕ) → from < 1000000 → Stage Entry (Unit {0}) (LastLeft from) (λ _. Unit {0}) (λ _. codes "cycles ") (λ _. BehindWord from)
word_stage from some =
    record {
      to = to;
      from = back;
      code = fixed_code (codes "cycles ");
      completes = λ u is. (count_text 1000000, (Last 1000000, (some, omega arith, refl)));
    }
  where
    to : (e : Entry) (bytes : List ℕ) → LastLeft from e bytes → Behind Entry (Unit {0}) (λ _. Unit {0}) (λ _. codes "cycles ") (λ _. BehindWord from) e bytes
    to (Pulse t o) bytes none = absurd none
    to (Last n) bytes (above, below, same) = (tt, count_text n, tt, (above, below, refl), same)

    back : (e : Entry) (bytes : List ℕ) → Behind Entry (Unit {0}) (λ _. Unit {0}) (λ _. codes "cycles ") (λ _. BehindWord from) e bytes → LastLeft from e bytes
    back (Pulse t o) bytes (u, more, is, none, same) = absurd none
    back (Last n) bytes (u, more, is, (above, below, left), same) = (above, below, same ∙ ap (λ rest. codes "cycles " ++ rest) left)

number_stage : (from : ℕ) → Stage Entry ℕ (BehindWord from) (IsInRange (from + 1) 1000000) count_text (λ n. End Entry (Last n))
number_stage from =
    record {
      to = to;
      from = back;
      code = number_code (from + 1) 1000000 10 (omega arith) refl;
      completes = λ n range. ([], (Last n, (refl, refl)));
    }
  where
    to : (e : Entry) (bytes : List ℕ) → BehindWord from e bytes → Behind Entry ℕ (IsInRange (from + 1) 1000000) count_text (λ n. End Entry (Last n)) e bytes
    to (Pulse t o) bytes none = absurd none
    to (Last n) bytes (above, below, same) = (n, [], (omega (arith, above), below), (refl, refl), same ∙ sym (append-nil (count_text n)))

    back : (e : Entry) (bytes : List ℕ) → Behind Entry ℕ (IsInRange (from + 1) 1000000) count_text (λ n. End Entry (Last n)) e bytes → BehindWord from e bytes
    back e bytes (n, more, range, (whole, nothing), same) =
        subst (λ (entry : Entry). BehindWord from entry bytes) (sym whole)
        (omega (arith, range.0), range.1, same ∙ ((λ i. count_text n ++ nothing i) ∙ append-nil (count_text n)))

-- Both kinds of lines, which differ in their first bytes.

-- of two kinds of items the one that goes further
either : (P Q R : List ℕ → Type 0) (text : List ℕ) (at near far : ℕ) → near ≤ far → ((bytes : List ℕ) → R bytes → P bytes ⊎ Q bytes) → ((bytes : List ℕ) → Q bytes → R bytes)
    → Misses P text at near → Misses Q text at far → Misses R text at far
either P Q R text at near far order cases holds before this =
    record {
      stops = record {
        after = this.stops.after;
        within = this.stops.within;
        before = (this.stops.before.0, holds _ this.stops.before.1);
        stops = λ some longer. stopped some longer.0 (cases _ longer.1);
      };
      none = λ end after within item. no_end end after within (cases _ item);
    }
  where
    stopped : far < length text → (more : List ℕ) → P (slice_range text at (far + 1) ++ more) ⊎ Q (slice_range text at (far + 1) ++ more) → ⊥
    stopped some more (inr item) = this.stops.stops some (more, item)
    stopped some more (inl item) =
        let split = slice_split text at (near + 1) (far + 1) (omega (arith, before.stops.after)) (omega (arith, order)) in
        let whole : slice_range text at (far + 1) ++ more ≡ slice_range text at (near + 1) ++ (slice_range text (near + 1) (far + 1) ++ more) =
        ap (λ part. part ++ more) split ∙ append_assoc (slice_range text at (near + 1)) (slice_range text (near + 1) (far + 1)) more in
        before.stops.stops (omega (arith, order, some)) (slice_range text (near + 1) (far + 1) ++ more, subst P whole item)

    no_end : (end : ℕ) → at ≤ end → end ≤ length text → P (slice_range text at end) ⊎ Q (slice_range text at end) → ⊥
    no_end end after within (inl item) = before.none end after within item
    no_end end after within (inr item) = this.none end after within item

-- what doesn't begin with the byte that stands there breaks off at once
at_once : (P : List ℕ → Type 0) (text : List ℕ) (at : ℕ) → at ≤ length text → (bytes : List ℕ) → P bytes → (P [] → ⊥) → ((more : List ℕ) → at < length text → P (get_or text at 0 ∷ more) → ⊥) → Misses P text at at
at_once P text at within bytes some empty differs =
    record {
      stops = record {
        after = omega arith;
        within = within;
        before = (bytes, subst (λ (front : List ℕ). P (front ++ bytes)) (sym (slice_nothing text at)) some);
        stops = λ inside longer.
            let one : slice_range text at (at + 1) ≡ get_or text at 0 ∷ [] =
            slice_cons text at (at + 1) (omega arith) (omega (arith, inside)) ∙ ap (λ rest. get_or text at 0 ∷ rest) (slice_nothing text (at + 1)) in
            differs longer.0 inside (subst (λ (front : List ℕ). P (front ++ longer.0)) one longer.1);
      };
      none = λ end after below item.
          elim (cases_lt at end) [
            | inl past ↦ differs (slice_range text (at + 1) end) (omega (arith, past, below)) (subst P (slice_cons text at end past below) item)
            | inr short ↦
                let here : end ≡ at = omega (arith, short, after) in
                empty (subst P (ap (slice_range text at) here ∙ slice_nothing text at) item)
          ];
    }

-- a number begins with a digit
first_digit : (n b : ℕ) (digits more tail : List ℕ) → n < 2 ^ 64 → decimal n ≡ digits → b ∷ more ≡ digits ++ tail → is_ascii_digit b ≡ true
first_digit n b [] more tail fits is same = absurd (omega (arith, decimal_nonempty n fits, ap length is))
first_digit n b (d ∷ digits) more tail fits is same =
    let byte : b ≡ d = cc same in
    digit_within [] b (digits, (n, omega arith, omega (arith, fits), ap (λ (c : ℕ). c ∷ digits) byte ∙ sym is))

abbrev Pulses : List ProgramPort → ℕ → List ℕ → Type 0
Pulses ports from = HasLeft Entry (PulseLeft ports from)

abbrev Lasts : ℕ → List ℕ → Type 0
Lasts from = HasLeft Entry (LastLeft from)

pulse_digit : (ports : List ProgramPort) (from b : ℕ) (more : List ℕ) → Pulses ports from (b ∷ more) → is_ascii_digit b ≡ true
pulse_digit ports from b more (Pulse t o, (is, same)) =
    let small : t ≤ 999999 = is.1 in
    first_digit t b (decimal t) more (32 ∷ line (label_text ports o)) (omega (arith, small)) refl (same ∙ (pulse_parts ports t o ∙ append_assoc (decimal t) (32 ∷ []) (line (label_text ports o))))
pulse_digit ports from b more (Last n, none) = absurd none

last_letter : (from b : ℕ) (more : List ℕ) → Lasts from (b ∷ more) → b ≡ 99
last_letter from b more (Pulse t o, none) = absurd none
last_letter from b more (Last n, (above, below, same)) = ap (λ bytes. get_or bytes 0 0) same

entry_cases : (ports : List ProgramPort) (from : ℕ) (bytes : List ℕ) → IsEntryText ports from bytes → Pulses ports from bytes ⊎ Lasts from bytes
entry_cases ports from bytes (Pulse t o, is, same) = inl (Pulse t o, (is, same))
entry_cases ports from bytes (Last n, is, same) = inr (Last n, (is.0, is.1, same))

of_pulse : (ports : List ProgramPort) (from : ℕ) (bytes : List ℕ) → Pulses ports from bytes → IsEntryText ports from bytes
of_pulse ports from bytes (Pulse t o, (is, same)) = (Pulse t o, is, same)
of_pulse ports from bytes (Last n, none) = absurd none

of_last : (ports : List ProgramPort) (from : ℕ) (bytes : List ℕ) → Lasts from bytes → IsEntryText ports from bytes
of_last ports from bytes (Pulse t o, none) = absurd none
of_last ports from bytes (Last n, (above, below, same)) = (Last n, (above, below), same)

swapped : {A B : Type 0} → A ⊎ B → B ⊎ A
swapped (inl a) = inr a
swapped (inr b) = inl b

-- the text of a line is not empty
pub entry_long : (ports : List ProgramPort) (e : Entry) → 0 < length (entry_text ports e)
entry_long ports (Pulse t o) = omega (arith, length-append (decimal t ++ codes " " ++ label_text ports o) (10 ∷ []))
entry_long ports (Last n) = omega arith

no_empty : (ports : List ProgramPort) (from : ℕ) → IsEntryText ports from [] → ⊥
no_empty ports from (e, is, same) = omega (arith, ap length same, entry_long ports e)

-- where a `c` stands, what the last line says breaks off
pub last_missed : (ports : List ProgramPort) → ArePorts ports → (from : ℕ) (old : TextAt) (place : ℕ) → from ≤ 999999 → old.at < length old.text → get_or old.text old.at 0 ≡ 99 → Breaks Entry (LastLeft from) old place
    → Misses (IsEntryText ports from) old.text old.at place
last_missed ports are from old place small inside letter breaks =
    either (Pulses ports from) (Lasts from) (IsEntryText ports from) old.text old.at old.at place breaks.stops.after (entry_cases ports from) (of_last ports from)
    (at_once (Pulses ports from) old.text old.at (omega (arith, inside)) (label_line ports from o.0) (Pulse from o.0, ((omega arith, small, o.1), refl)) (λ item. no_empty ports from (of_pulse ports from [] item))
    (λ more some item. no_letter (subst (λ (b : ℕ). is_ascii_digit b ≡ true) letter (pulse_digit ports from (get_or old.text old.at 0) more item))))
    breaks
  where
    o : (o : Label) × IsLabel ports o
    o = some_label ports are

    no_letter : is_ascii_digit 99 ≡ true → ⊥
    no_letter digit = absurd (cc (digit))

-- and elsewhere what the line of a label says
pub pulse_missed : (ports : List ProgramPort) (from : ℕ) (old : TextAt) (place : ℕ) → from ≤ 999999 → old.at ≤ length old.text → ((old.at < length old.text) × (get_or old.text old.at 0 ≡ 99) → ⊥) → Breaks Entry (PulseLeft ports from) old place
    → Misses (IsEntryText ports from) old.text old.at place
pulse_missed ports from old place small within other breaks =
    either (Lasts from) (Pulses ports from) (IsEntryText ports from) old.text old.at old.at place breaks.stops.after (λ bytes item. swapped (entry_cases ports from bytes item)) (of_pulse ports from)
    (at_once (Lasts from) old.text old.at within (line (codes "cycles " ++ decimal 1000000)) (Last 1000000, (omega (arith, small), omega arith, refl)) (λ item. no_empty ports from (of_last ports from [] item))
    (λ more some item. other (some, last_letter from (get_or old.text old.at 0) more item)))
    breaks

-- a line of each kind is a line
pub last_is : (ports : List ProgramPort) (from : ℕ) (old new : TextAt) (e : Entry) → Leads Entry (LastLeft from) (End Entry e) old new → IsEntry ports from e × Passed old new (entry_text ports e)
last_is ports from old new e leads = by e leads (leads.says e [] (refl, refl))
  where
    by : (e : Entry) → Leads Entry (LastLeft from) (End Entry e) old new → LastLeft from e (slice_range old.text old.at new.at ++ []) → IsEntry ports from e × Passed old new (entry_text ports e)
    by (Pulse t o) leads none = absurd none
    by (Last n) leads (above, below, same) = (
      (above, below),
      record { text = leads.text; after = leads.after; within = leads.within; is = sym (append-nil (slice_range old.text old.at new.at)) ∙ same },
    )

pub pulse_is : (ports : List ProgramPort) (from : ℕ) (old new : TextAt) (e : Entry) → Leads Entry (PulseLeft ports from) (End Entry e) old new → IsEntry ports from e × Passed old new (entry_text ports e)
pulse_is ports from old new e leads = by e leads (leads.says e [] (refl, refl))
  where
    by : (e : Entry) → Leads Entry (PulseLeft ports from) (End Entry e) old new → PulseLeft ports from e (slice_range old.text old.at new.at ++ []) → IsEntry ports from e × Passed old new (entry_text ports e)
    by (Pulse t o) leads (is, same) = (
      is,
      record { text = leads.text; after = leads.after; within = leads.within; is = sym (append-nil (slice_range old.text old.at new.at)) ∙ same },
    )
    by (Last n) leads none = absurd none

-- Where the reader of a line stands.

pub cycle_passed : (ports : List ProgramPort) → ArePorts ports → (from t : ℕ) (old new : TextAt) → from ≤ t → t ≤ 999999 → Passed old new (ended 32 (decimal t)) → Leads Entry (PulseLeft ports from) (BehindCycle ports t) old new
cycle_passed ports are from t old new above below passed =
    item_passed Entry ℕ (PulseLeft ports from) (IsInRange from 999999) cycle_text (BehindCycle ports) (cycle_stage ports from are) old new t (above, below) passed

pub no_cycle : (ports : List ProgramPort) → ArePorts ports → (from : ℕ) (old : TextAt) (place : ℕ) → Misses (IsNumberText from 999999 32) old.text old.at place → Breaks Entry (PulseLeft ports from) old place
no_cycle ports are from old place misses =
    item_missed Entry ℕ (PulseLeft ports from) (IsInRange from 999999) cycle_text (BehindCycle ports) (cycle_stage ports from are) old place misses

pub label_passed : (ports : List ProgramPort) → AllByRecursion IsNamed ports → ArePorts ports → (from t : ℕ) (o : Label) (old mid new : TextAt) → Leads Entry (PulseLeft ports from) (BehindCycle ports t) old mid
    → Leads Label (LabelLeft ports) (End Label o) mid new → Leads Entry (PulseLeft ports from) (End Entry (Pulse t o)) old new
label_passed ports named are from t o old mid new far leads =
    let known = leads.says o [] (refl, refl) in
    let passed = passed_end Label (LabelLeft ports) (λ l. line (label_text ports l)) mid new o leads (λ bytes left. left.1) in
    leads_on Entry (PulseLeft ports from) (BehindCycle ports t) (End Entry (Pulse t o)) old mid new far
    (item_passed Entry Label (BehindCycle ports t) (IsLabel ports) (λ l. line (label_text ports l)) (λ l. End Entry (Pulse t l)) (label_stage ports t named are) mid new o known.0 passed)

pub no_label : (ports : List ProgramPort) → AllByRecursion IsNamed ports → ArePorts ports → (from t : ℕ) (old mid : TextAt) (place : ℕ) → Leads Entry (PulseLeft ports from) (BehindCycle ports t) old mid → Breaks Label (LabelLeft ports) mid place
    → Breaks Entry (PulseLeft ports from) old place
no_label ports named are from t old mid place far breaks =
    breaks_on Entry (PulseLeft ports from) (BehindCycle ports t) old mid place far
    (item_missed Entry Label (BehindCycle ports t) (IsLabel ports) (λ l. line (label_text ports l)) (λ l. End Entry (Pulse t l)) (label_stage ports t named are) mid place
    (misses_as (HasLeft Label (LabelLeft ports)) (IsTextOf Label (IsLabel ports) (λ l. line (label_text ports l))) mid.text mid.at place (λ bytes item. (item.0, item.1.0, item.1.1)) (λ bytes item. (item.0, (item.1, item.2))) breaks))

pub word_passed : (from : ℕ) (old new : TextAt) → from ≤ 999999 → Passed old new (codes "cycles ") → Leads Entry (LastLeft from) (BehindWord from) old new
word_passed from old new small passed =
    item_passed Entry (Unit {0}) (LastLeft from) (λ _. Unit {0}) (λ _. codes "cycles ") (λ _. BehindWord from) (word_stage from (omega (arith, small))) old new tt tt passed

pub no_word : (from : ℕ) (old : TextAt) (place : ℕ) → from ≤ 999999 → Misses (IsJust (codes "cycles ")) old.text old.at place → Breaks Entry (LastLeft from) old place
no_word from old place small misses =
    item_missed Entry (Unit {0}) (LastLeft from) (λ _. Unit {0}) (λ _. codes "cycles ") (λ _. BehindWord from) (word_stage from (omega (arith, small))) old place
    (misses_as (IsJust (codes "cycles ")) (IsTextOf (Unit {0}) (λ _. Unit {0}) (λ _. codes "cycles ")) old.text old.at place (λ part is. (tt, tt, is)) (λ part item. item.2) misses)

pub number_passed : (from n : ℕ) (old mid new : TextAt) → Leads Entry (LastLeft from) (BehindWord from) old mid → IsInRange (from + 1) 1000000 n → Passed mid new (ended 10 (decimal n)) → Leads Entry (LastLeft from) (End Entry (Last n)) old new
number_passed from n old mid new far range passed =
    leads_on Entry (LastLeft from) (BehindWord from) (End Entry (Last n)) old mid new far
    (item_passed Entry ℕ (BehindWord from) (IsInRange (from + 1) 1000000) count_text (λ k. End Entry (Last k)) (number_stage from) mid new n range passed)

pub no_number_here : (from : ℕ) (old mid : TextAt) (place : ℕ) → Leads Entry (LastLeft from) (BehindWord from) old mid → Misses (IsNumberText (from + 1) 1000000 10) mid.text mid.at place → Breaks Entry (LastLeft from) old place
no_number_here from old mid place far misses =
    breaks_on Entry (LastLeft from) (BehindWord from) old mid place far
    (item_missed Entry ℕ (BehindWord from) (IsInRange (from + 1) 1000000) count_text (λ k. End Entry (Last k)) (number_stage from) mid place misses)

-- All lines.

-- lines don't begin one another
pub entry_code : (ports : List ProgramPort) (from : ℕ) → AllByRecursion IsNamed ports → ArePorts ports → IsCode Entry (IsEntry ports from) (entry_text ports)
entry_code ports from named are v w x y is_v is_w same = by v w is_v is_w same
  where
    apart : (t n : ℕ) (o : Label) (x y : List ℕ) → t ≤ 999999 → label_line ports t o ++ x ≡ line (codes "cycles " ++ decimal n) ++ y → ⊥
    apart t n o x y small same =
        let digit : is_ascii_digit 99 ≡ true =
        first_digit t 99 (decimal t) (codes "ycles " ++ count_text n ++ y) (32 ∷ line (label_text ports o) ++ x) (omega (arith, small)) refl
        (sym same ∙ (ap (λ bytes. bytes ++ x) (pulse_parts ports t o ∙ append_assoc (decimal t) (32 ∷ []) (line (label_text ports o))) ∙ append_assoc (decimal t) (32 ∷ line (label_text ports o)) x)) in
        absurd (cc digit)

    by : (v w : Entry) → IsEntry ports from v → IsEntry ports from w → entry_text ports v ++ x ≡ entry_text ports w ++ y → (v ≡ w) × (x ≡ y)
    by (Pulse t o) (Pulse u q) is_v is_w same =
        let one = ap (λ bytes. bytes ++ x) (pulse_parts ports t o) ∙ append_assoc (cycle_text t) (line (label_text ports o)) x in
        let other = ap (λ bytes. bytes ++ y) (pulse_parts ports u q) ∙ append_assoc (cycle_text u) (line (label_text ports q)) y in
        let cycle = number_code 0 999999 32 (omega arith) refl t u (line (label_text ports o) ++ x) (line (label_text ports q) ++ y) (omega arith, is_v.1) (omega arith, is_w.1) (sym one ∙ (same ∙ other)) in
        let label = label_code ports named are o q x y is_v.2 is_w.2 cycle.1 in
        ((λ i. Pulse (cycle.0 i) (label.0 i)), label.1)
    by (Pulse t o) (Last m) is_v is_w same = absurd (apart t m o x y is_v.1 same)
    by (Last n) (Pulse u q) is_v is_w same = absurd (apart u n q y x is_w.1 (sym same))
    by (Last n) (Last m) is_v is_w same =
        let rest = append_cancel_left (codes "cycles ") (count_text n ++ x) (count_text m ++ y) same in
        let known = number_code 0 1000000 10 (omega arith) refl n m x y (omega arith, is_v.1) (omega arith, is_w.1) rest in
        (ap Last known.0, known.1)

-- a line, and what is left behind it
entry_stage : (ports : List ProgramPort) (from : ℕ) (done : List Label) → AllByRecursion IsNamed ports → ArePorts ports
    → Stage (List Label) Entry (TraceLeft ports from done) (IsEntry ports from) (entry_text ports) (EntryLeft ports done)
entry_stage ports from done named are =
    record {
      to = to;
      from = back;
      code = entry_code ports from named are;
      completes = some_left;
    }
  where
    to : (v : List Label) (bytes : List ℕ) → TraceLeft ports from done v bytes → Behind (List Label) Entry (IsEntry ports from) (entry_text ports) (EntryLeft ports done) v bytes
    to v bytes ([], whole, (n, above, below, same)) =
        (Last n, [], (above, below), (whole ∙ append-nil done, refl), same ∙ sym (append-nil (entry_text ports (Last n))))
    to v bytes (o ∷ labels, whole, (n, above, below, (t, rest, later, under, is, lines, same))) =
        (Pulse t o, rest, (later, omega (arith, under, below), is), (labels, whole ∙ sym (append_assoc done (o ∷ []) labels), (n, under, below, lines)), same)

    back : (v : List Label) (bytes : List ℕ) → Behind (List Label) Entry (IsEntry ports from) (entry_text ports) (EntryLeft ports done) v bytes → TraceLeft ports from done v bytes
    back v bytes (Last n, more, (above, below), (whole, nothing), same) = (
      [],
      whole ∙ sym (append-nil done),
      (n, above, below, same ∙ ((λ i. entry_text ports (Last n) ++ nothing i) ∙ append-nil (entry_text ports (Last n)))),
    )
    back v bytes (Pulse t o, more, (later, small, is), (labels, whole, (n, under, below, lines)), same) =
        (o ∷ labels, whole ∙ append_assoc done (o ∷ []) labels, (n, omega (arith, later, under), below, (t, more, later, under, is, lines, same)))

    some_left : (e : Entry) → IsEntry ports from e → (bytes : List ℕ) × HasLeft (List Label) (EntryLeft ports done e) bytes
    some_left (Last n) is = ([], (done, (refl, refl)))
    some_left (Pulse t o) is = (
      line (codes "cycles " ++ decimal 1000000),
      (done ++ o ∷ [], ([], sym (append-nil (done ++ o ∷ [])), (1000000, omega (arith, is.1), omega arith, refl))),
    )

-- one line more is passed
pub entry_passed : (ports : List ProgramPort) → AllByRecursion IsNamed ports → ArePorts ports → (from : ℕ) (done : List Label) (e : Entry) (old mid new : TextAt) → Leads (List Label) (TraceLeft ports 0 []) (TraceLeft ports from done) old mid
    → IsEntry ports from e → Passed mid new (entry_text ports e) → Leads (List Label) (TraceLeft ports 0 []) (EntryLeft ports done e) old new
entry_passed ports named are from done e old mid new far is passed =
    leads_on (List Label) (TraceLeft ports 0 []) (TraceLeft ports from done) (EntryLeft ports done e) old mid new far
    (item_passed (List Label) Entry (TraceLeft ports from done) (IsEntry ports from) (entry_text ports) (EntryLeft ports done) (entry_stage ports from done named are) mid new e is passed)

pub no_entry : (ports : List ProgramPort) → AllByRecursion IsNamed ports → ArePorts ports → (from : ℕ) (done : List Label) (old mid : TextAt) (place : ℕ) → Leads (List Label) (TraceLeft ports 0 []) (TraceLeft ports from done) old mid
    → Misses (IsEntryText ports from) mid.text mid.at place → Breaks (List Label) (TraceLeft ports 0 []) old place
no_entry ports named are from done old mid place far misses =
    breaks_on (List Label) (TraceLeft ports 0 []) (TraceLeft ports from done) old mid place far
    (item_missed (List Label) Entry (TraceLeft ports from done) (IsEntry ports from) (entry_text ports) (EntryLeft ports done) (entry_stage ports from done named are) mid place misses)

pub trace_starts : (ports : List ProgramPort) (old : TextAt) → old.at ≤ length old.text → Leads (List Label) (TraceLeft ports 0 []) (TraceLeft ports 0 []) old old
trace_starts ports old within = stands (List Label) (TraceLeft ports 0 []) old within

-- the whole text
pub trace_is : (ports : List ProgramPort) (text : List ℕ) (labels : List Label) → TraceLeft ports 0 [] labels text → IsTraceTextOf ports text labels
trace_is ports text labels (rest, same, is) = subst (λ (ls : List Label). IsTraceFrom ports 0 ls text) (sym same) is

pub trace_left : (ports : List ProgramPort) (text : List ℕ) (labels : List Label) → IsTraceTextOf ports text labels → TraceLeft ports 0 [] labels text
trace_left ports text labels is = (labels, refl, is)

trace_stops : (ports : List ProgramPort) (text : List ℕ) (place : ℕ) → StopsAt (HasLeft (List Label) (TraceLeft ports 0 [])) text 0 place → StopsAt (IsTraceText ports) text 0 place
trace_stops ports text place stops =
    record {
      after = stops.after;
      within = stops.within;
      before = (stops.before.0, (stops.before.1.0, trace_is ports (slice_range text 0 place ++ stops.before.0) stops.before.1.0 stops.before.1.1));
      stops = λ some longer. stops.stops some (longer.0, (longer.1.0, trace_left ports (slice_range text 0 (place + 1) ++ longer.0) longer.1.0 longer.1.1));
    }

-- What the reader of a whole text answers.

pub trace_break : (ports : List ProgramPort) (text : List ℕ) (old : TextAt) (fault : ExplainFault) → old.text ≡ text → old.at ≡ 0 → BreaksOff (HasLeft (List Label) (TraceLeft ports 0 [])) old fault → IsFormFault (IsTraceText ports) text fault
trace_break ports text old (faults.Form place) same none breaks =
    let known = breaks_off (List Label) (TraceLeft ports 0 []) text old place same none breaks in
    (trace_stops ports text place known.0, λ item. known.1 (item.0, trace_left ports text item.0 item.1))
trace_break ports text old faults.NoMemory same none any = tt
trace_break ports text old (faults.Wrong n) same none absent = absent
trace_break ports text old (faults.Labels n) same none absent = absent
trace_break ports text old (faults.NotTrace n) same none absent = absent
trace_break ports text old (faults.Spent n) same none absent = absent
trace_break ports text old faults.Taken same none absent = absent
trace_break ports text old (faults.Nodes n) same none absent = absent

pub trace_over : (ports : List ProgramPort) (text : List ℕ) (old new : TextAt) (labels : List Label) (place : ℕ) → old.text ≡ text → old.at ≡ 0 → Leads (List Label) (TraceLeft ports 0 []) (End (List Label) labels) old new
    → (new.at ≡ length new.text → ⊥) → place ≡ new.at → IsFormFault (IsTraceText ports) text (faults.Form place)
trace_over ports text old new labels place same none leads more here =
    let known = left_over (List Label) (TraceLeft ports 0 []) text old new labels place same none leads more here in
    (trace_stops ports text place known.0, λ item. known.1 (item.0, trace_left ports text item.0 item.1))

pub trace_read : (ports : List ProgramPort) (text : List ℕ) (old new : TextAt) (labels : List Label) → old.text ≡ text → old.at ≡ 0 → Leads (List Label) (TraceLeft ports 0 []) (End (List Label) labels) old new → new.at ≡ length new.text
    → IsTraceTextOf ports text labels
trace_read ports text old new labels same none leads finished = trace_is ports text labels (all_passed (List Label) (TraceLeft ports 0 []) text old new labels same none leads finished)

-- A text is that of one list of labels.

abbrev cycle_of : Entry → ℕ
cycle_of (Pulse t o) = t
cycle_of (Last n) = n

lines_one : (ports : List ProgramPort) → AllByRecursion IsNamed ports → ArePorts ports → (ls ms : List Label) (from n m : ℕ) (a b x y : List ℕ) → from < n → n ≤ 1000000 → from < m → m ≤ 1000000
    → LinesText ports from n ls a → LinesText ports from m ms b → a ++ x ≡ b ++ y → (ls ≡ ms) × (x ≡ y)
lines_one ports named are [] [] from n m a b x y n_above n_below m_above m_below first second same =
    let known = entry_code ports from named are (Last n) (Last m) x y (n_above, n_below) (m_above, m_below) (ap (λ part. part ++ x) (sym first) ∙ (same ∙ ap (λ part. part ++ y) second)) in
    (refl, known.1)
lines_one ports named are [] (o ∷ ms) from n m a b x y n_above n_below m_above m_below first (t, rest, later, under, is, lines, whole) same =
    let known = entry_code ports from named are (Last n) (Pulse t o) x (rest ++ y) (n_above, n_below) (later, omega (arith, under, m_below), is)
    (ap (λ part. part ++ x) (sym first) ∙ (same ∙ (ap (λ part. part ++ y) whole ∙ append_assoc (label_line ports t o) rest y))) in
    absurd (cc (known.0))
lines_one ports named are (o ∷ ls) [] from n m a b x y n_above n_below m_above m_below (t, rest, later, under, is, lines, whole) second same =
    let known = entry_code ports from named are (Pulse t o) (Last m) (rest ++ x) y (later, omega (arith, under, n_below), is) (m_above, m_below)
    (sym (ap (λ part. part ++ x) whole ∙ append_assoc (label_line ports t o) rest x) ∙ (same ∙ ap (λ part. part ++ y) second)) in
    absurd (cc (known.0))
lines_one ports named are (o ∷ ls) (q ∷ ms) from n m a b x y n_above n_below m_above m_below (t, rest, later, under, is, lines, whole) (u, more, after, below, is_q, others, all) same =
    let one = ap (λ part. part ++ x) whole ∙ append_assoc (label_line ports t o) rest x in
    let other = ap (λ part. part ++ y) all ∙ append_assoc (label_line ports u q) more y in
    let known = entry_code ports from named are (Pulse t o) (Pulse u q) (rest ++ x) (more ++ y) (later, omega (arith, under, n_below), is) (after, omega (arith, below, m_below), is_q) (sym one ∙ (same ∙ other)) in
    let cycle : t ≡ u = ap cycle_of known.0 in
    let label : o ≡ q = cc (known.0) in
    let tail = lines_one ports named are ls ms t n m rest more x y under n_below (omega (arith, cycle, below)) m_below lines (subst (λ (k : ℕ). LinesText ports k m ms more) (sym cycle) others) known.1 in
    ((λ i. label i ∷ tail.0 i), tail.1)

pub trace_one : (ports : List ProgramPort) → ArePorts ports → (labels others : List Label) (text : List ℕ) → IsTraceTextOf ports text labels → IsTraceTextOf ports text others → labels ≡ others
trace_one ports are labels others text (n, n_above, n_below, first) (m, m_above, m_below, second) =
    (lines_one ports are.named are labels others 0 n m text text [] [] n_above n_below m_above m_below first second refl).0

-- The turns of the reader of all lines.

pub pulse_more : (ports : List ProgramPort) → ArePorts ports → (from : ℕ) (done : List Label) (line : Entry) (t : ℕ) (o : Label) (old mid new : TextAt) → line ≡ Pulse t o
    → Leads (List Label) (TraceLeft ports 0 []) (TraceLeft ports from done) old mid → IsEntry ports from line → Passed mid new (entry_text ports line)
    → (t ≤ 999999) × Leads (List Label) (TraceLeft ports 0 []) (TraceLeft ports t (done ++ o ∷ [])) old new
pulse_more ports are from done line t o old mid new same far is passed =
    let known = subst (IsEntry ports from) same is in
    let leads = entry_passed ports are.named are from done line old mid new far is passed in
    (known.1, subst (λ (e : Entry). Leads (List Label) (TraceLeft ports 0 []) (EntryLeft ports done e) old new) same leads)

pub last_end : (ports : List ProgramPort) → ArePorts ports → (from : ℕ) (done : List Label) (line : Entry) (n : ℕ) (old mid new : TextAt) → line ≡ Last n
    → Leads (List Label) (TraceLeft ports 0 []) (TraceLeft ports from done) old mid → IsEntry ports from line → Passed mid new (entry_text ports line)
    → Leads (List Label) (TraceLeft ports 0 []) (End (List Label) done) old new
last_end ports are from done line n old mid new same far is passed =
    subst (λ (e : Entry). Leads (List Label) (TraceLeft ports 0 []) (EntryLeft ports done e) old new) same (entry_passed ports are.named are from done line old mid new far is passed)

pub line_shorter : (ports : List ProgramPort) (from : ℕ) (done : List Label) (line : Entry) (old mid new : TextAt) → Leads (List Label) (TraceLeft ports 0 []) (TraceLeft ports from done) old mid → Passed mid new (entry_text ports line)
    → length old.text - new.at < length old.text - mid.at
line_shorter ports from done line old mid new far passed =
    let within : new.at ≤ length old.text = subst (λ (text : List ℕ). new.at ≤ length text) far.text passed.within in
    let size = length_slice mid.text mid.at new.at passed.within in
    omega (arith, within, size, ap length passed.is, entry_long ports line, passed.after)
