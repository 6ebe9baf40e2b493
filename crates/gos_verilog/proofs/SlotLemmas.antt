-- A slot, and a line of slots: where a part of it breaks off, it does.
use Rattle.std.proofs.Common.{◌≡◌, ℕ, ◌≤◌, List, [], ◌∷◌, ◌++◌, length, refl, sym, ◌∙◌, ap, arith, append_assoc}
use Rattle.std.specs.Fmt.{decimal}
use Rattle.std.specs.List.{slice_range}
use Rattle.std.proofs.lemmas.List.{append_cancel_left}
use Rattle.gos_lex.specs.Items.{IsJust, Misses}
use Rattle.gos_lex.specs.ItemTexts.{IsTextOf, IsFixed, IsNumberText, ended}
use Rattle.gos_lex.proofs.SequenceLemmas.{Then, IsCode, misses_as, then_first, then_rest}
use Rattle.gos_verilog.specs.inner.Runs.{IsRun, run_text}
use Rattle.gos_verilog.specs.inner.Slots.{Slot', IsSlot, IsRightSlot, AreSlots, FitSlots, slot_text, IsLine}
use Rattle.gos_lex.proofs.NumberTextLemmas.{number_code}
use Rattle.gos_verilog.proofs.RunLemmas.{Some, Codes, run_code}

-- these bytes as an item
pub no_word : (bytes text : List ℕ) (at place : ℕ) → Misses (IsJust bytes) text at place → Misses (IsFixed bytes) text at place
no_word bytes text at place = misses_as (IsJust bytes) (IsFixed bytes) text at place (λ part is. (tt, tt, is)) (λ part item. item.2)

pub fixed_code : (bytes : List ℕ) → IsCode (Unit {0}) (λ _. Unit {0}) (λ _. bytes)
fixed_code bytes v w x y is_v is_w same = (refl, append_cancel_left bytes x y same)

abbrev IsParts : Slot' → List ℕ → Type 0
IsParts s = Then (Unit {0}) (λ _. Unit {0}) (λ _. s.before) (λ _. IsNumberText s.low s.high s.end)

joined : (s : Slot') (bytes : List ℕ) → IsParts s bytes → IsTextOf ℕ (IsSlot s) (slot_text s) bytes
joined s bytes (u, rest, i, (n, is, part), whole) = (n, is, whole ∙ ap (λ more. s.before ++ more) part)

cut : (s : Slot') (bytes : List ℕ) → IsTextOf ℕ (IsSlot s) (slot_text s) bytes → IsParts s bytes
cut s bytes (n, is, whole) = (tt, ended s.end (decimal n), tt, (n, is, refl), whole)

-- where the word breaks off, the slot does
pub no_slot_word : (s : Slot') (text : List ℕ) (at place : ℕ) → IsRightSlot s → Misses (IsJust s.before) text at place → Misses (IsTextOf ℕ (IsSlot s) (slot_text s)) text at place
no_slot_word s text at place right misses =
    misses_as (IsParts s) (IsTextOf ℕ (IsSlot s) (slot_text s)) text at place (joined s) (cut s)
    (then_first (Unit {0}) (λ _. Unit {0}) (λ _. s.before) (λ _. IsNumberText s.low s.high s.end) text at place
    (λ v is. (ended s.end (decimal s.low), (s.low, (omega arith, right.0), refl))) (no_word s.before text at place misses))

-- where the number breaks off, the slot does
pub no_slot_number : (s : Slot') (text : List ℕ) (at mid place : ℕ) → at ≤ mid → mid ≤ length text → slice_range text at mid ≡ s.before
    → Misses (IsNumberText s.low s.high s.end) text mid place → Misses (IsTextOf ℕ (IsSlot s) (slot_text s)) text at place
no_slot_number s text at mid place after within first misses =
    misses_as (IsParts s) (IsTextOf ℕ (IsSlot s) (slot_text s)) text at place (joined s) (cut s)
    (then_rest (Unit {0}) (λ _. Unit {0}) (λ _. s.before) (λ _. IsNumberText s.low s.high s.end) text at mid place tt (fixed_code s.before) tt after within first misses)

-- no text of a slot begins another one
pub slot_code : (s : Slot') → IsRightSlot s → IsCode ℕ (IsSlot s) (slot_text s)
slot_code s right v w x y is_v is_w same =
    number_code s.low s.high s.end right.1 right.2 v w x y is_v is_w
    (append_cancel_left s.before (ended s.end (decimal v) ++ x) (ended s.end (decimal w) ++ y)
    (sym (append_assoc s.before (ended s.end (decimal v)) x) ∙ (same ∙ append_assoc s.before (ended s.end (decimal w)) y)))

pub slots_some : (slots : List Slot') → AreSlots slots → Some Slot' ℕ IsSlot slots
slots_some [] right = tt
slots_some (s ∷ slots) right = ((s.low, (omega arith, right.0.0)), slots_some slots right.1)

pub slots_codes : (slots : List Slot') → AreSlots slots → Codes Slot' ℕ IsSlot slot_text slots
slots_codes [] right = tt
slots_codes (s ∷ slots) right = (slot_code s right.0, slots_codes slots right.1)

abbrev IsBoth : List Slot' → List ℕ → List ℕ → Type 0
IsBoth slots tail = Then (List ℕ) (FitSlots slots) (run_text Slot' ℕ slot_text slots) (λ _. IsFixed tail)

line_joined : (slots : List Slot') (tail bytes : List ℕ) → IsBoth slots tail bytes → IsLine slots tail bytes
line_joined slots tail bytes (ns, rest, fit, (u, i, part), whole) = (ns, fit, whole ∙ ap (λ more. run_text Slot' ℕ slot_text slots ns ++ more) part)

line_cut : (slots : List Slot') (tail bytes : List ℕ) → IsLine slots tail bytes → IsBoth slots tail bytes
line_cut slots tail bytes (ns, fit, whole) = (ns, tail, fit, (tt, tt, refl), whole)

-- where the slots break off, the line does
pub no_line_slots : (slots : List Slot') (tail text : List ℕ) (at place : ℕ) → Misses (IsRun Slot' ℕ IsSlot slot_text slots) text at place → Misses (IsLine slots tail) text at place
no_line_slots slots tail text at place misses =
    misses_as (IsBoth slots tail) (IsLine slots tail) text at place (line_joined slots tail) (line_cut slots tail)
    (then_first (List ℕ) (FitSlots slots) (run_text Slot' ℕ slot_text slots) (λ _. IsFixed tail) text at place (λ v is. (tail, (tt, tt, refl))) misses)

-- where the word behind them breaks off, the line does
pub no_line_tail : (slots : List Slot') (tail ns text : List ℕ) (at mid place : ℕ) → AreSlots slots → FitSlots slots ns → at ≤ mid → mid ≤ length text
    → slice_range text at mid ≡ run_text Slot' ℕ slot_text slots ns → Misses (IsJust tail) text mid place → Misses (IsLine slots tail) text at place
no_line_tail slots tail ns text at mid place right fit after within first misses =
    misses_as (IsBoth slots tail) (IsLine slots tail) text at place (line_joined slots tail) (line_cut slots tail)
    (then_rest (List ℕ) (FitSlots slots) (run_text Slot' ℕ slot_text slots) (λ _. IsFixed tail) text at mid place ns
    (run_code Slot' ℕ IsSlot slot_text slots (slots_codes slots right)) fit after within first (no_word tail text mid place misses))
