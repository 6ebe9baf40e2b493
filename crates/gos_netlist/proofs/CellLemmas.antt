-- The line of a cell: a word, a width and its operands, each of which ends with a byte of its own.
use Rattle.std.proofs.Common.{◌≡◌, false, ℕ, ◌^◌, ◌≤◌, List, [], ◌∷◌, ◌++◌, length, refl, sym, ◌∙◌, ap, subst, arith, append_assoc, append-nil}
use Rattle.std.specs.Char.{is_ascii_digit}
use Rattle.std.specs.Fmt.{decimal}
use Rattle.std.specs.List.{slice_range}
use Rattle.std.proofs.Math.Nat.{pow-le-pow_right, one-le-pow}
use Rattle.gos_types.specs.declared.widths.TheConstants.{GREATEST_WIDTH}
use Rattle.gos_lex.specs.Items.{TextAt, Misses}
use Rattle.gos_netlist.specs.declared.word.GateWord.{GateWord}
use Rattle.gos_netlist.specs.declared.word.GateWord.TheVariants as gates
use Rattle.gos_netlist.specs.Nets.{Function, Input, Const, Not, And, Or, Xor, Mux, Add, Sub, Eq, Less, Gate, Reg, Cell}
use Rattle.gos_netlist.specs.NetText.{spaced, word_of, operands, cell_text}
use Rattle.gos_netlist.specs.Writable.{OperandsFit, IsWritableCell}
use Rattle.gos_types.specs.Widths.{IsWidth}
use Rattle.gos_lex.specs.ItemTexts.{IsInRange, IsNumberText, Passed, ended}
use Rattle.gos_netlist.specs.inner.NetLines.{end_before, numbers_text, gate_text, word_for, pin_count, width_end, HasWord, IsGateText, IsOperandsText, IsCellText}
use Rattle.gos_lex.proofs.SequenceLemmas.{Then, IsCode, misses_as, then_first, then_rest}
use Rattle.gos_lex.proofs.PassedLemmas.{passed_both, passed_as}
use Rattle.gos_lex.proofs.NumberTextLemmas.{number_code}
use Rattle.gos_netlist.proofs.NetsLemmas.{AreNumbers, are_numbers, numbers_code}
use Rattle.gos_netlist.proofs.WordLemmas.{gate_code}

-- the text of a function's word, and the byte behind the width
by_word : (f : Function) → (word_of f ≡ gate_text (word_for f)) × (end_before (operands f) ≡ width_end (word_for f))
by_word Input = (refl, refl)
by_word (Const k) = (refl, refl)
by_word (Not a) = (refl, refl)
by_word (And a b) = (refl, refl)
by_word (Or a b) = (refl, refl)
by_word (Xor a b) = (refl, refl)
by_word (Mux s a b) = (refl, refl)
by_word (Add a b) = (refl, refl)
by_word (Sub a b) = (refl, refl)
by_word (Eq a b) = (refl, refl)
by_word (Less a b) = (refl, refl)
by_word (Gate s a) = (refl, refl)
by_word (Reg a) = (refl, refl)

-- numbers behind spaces, as a line ends with them
pub spaced_line : (n : ℕ) (ns : List ℕ) → spaced (n ∷ ns) ++ 10 ∷ [] ≡ 32 ∷ numbers_text (n ∷ ns)
spaced_line n [] = ap (λ bytes. 32 ∷ bytes) (ap (λ bytes. bytes ++ 10 ∷ []) (append-nil (decimal n)) ∙ sym (append-nil (decimal n ++ 10 ∷ [])))
spaced_line n (m ∷ ns) =
    ap (λ bytes. 32 ∷ bytes)
    (append_assoc (decimal n) (spaced (m ∷ ns)) (10 ∷ []) ∙ (ap (λ bytes. decimal n ++ bytes) (spaced_line m ns) ∙ sym (append_assoc (decimal n) (32 ∷ []) (numbers_text (m ∷ ns)))))

-- the line of a cell by its items
pub cell_parts : (w : ℕ) (f : Function) → cell_text (record { width = w; gate = f }) ≡ ended 32 (gate_text (word_for f)) ++ (ended (width_end (word_for f)) (decimal w) ++ numbers_text (operands f))
cell_parts w f =
    append_assoc (word_of f) (spaced (w ∷ operands f)) (10 ∷ [])
    ∙ ((λ i. (by_word f).0 i ++ spaced_line w (operands f) i)
    ∙ (ap (λ (c : ℕ). gate_text (word_for f) ++ 32 ∷ (ended c (decimal w) ++ numbers_text (operands f))) (by_word f).1
    ∙ sym (append_assoc (gate_text (word_for f)) (32 ∷ []) (ended (width_end (word_for f)) (decimal w) ++ numbers_text (operands f)))))

-- the function with this word and these operands
abbrev from_word : GateWord → List ℕ → Function
from_word gates.Const (k ∷ ns) = Const k
from_word gates.Not (a ∷ ns) = Not a
from_word gates.And (a ∷ b ∷ ns) = And a b
from_word gates.Or (a ∷ b ∷ ns) = Or a b
from_word gates.Xor (a ∷ b ∷ ns) = Xor a b
from_word gates.Mux (s ∷ a ∷ b ∷ ns) = Mux s a b
from_word gates.Add (a ∷ b ∷ ns) = Add a b
from_word gates.Sub (a ∷ b ∷ ns) = Sub a b
from_word gates.Eq (a ∷ b ∷ ns) = Eq a b
from_word gates.Less (a ∷ b ∷ ns) = Less a b
from_word gates.Gate (s ∷ a ∷ ns) = Gate s a
from_word gates.Reg (a ∷ ns) = Reg a
from_word word ns = Input

from_own : (f : Function) → from_word (word_for f) (operands f) ≡ f
from_own Input = refl
from_own (Const k) = refl
from_own (Not a) = refl
from_own (And a b) = refl
from_own (Or a b) = refl
from_own (Xor a b) = refl
from_own (Mux s a b) = refl
from_own (Add a b) = refl
from_own (Sub a b) = refl
from_own (Eq a b) = refl
from_own (Less a b) = refl
from_own (Gate s a) = refl
from_own (Reg a) = refl

function_same : (f g : Function) → word_for f ≡ word_for g → operands f ≡ operands g → f ≡ g
function_same f g word numbers = sym (from_own f) ∙ ((λ i. from_word (word i) (numbers i)) ∙ from_own g)

-- how many operands a function with this word has
abbrev operand_count : GateWord → ℕ
operand_count gates.Const = 1
operand_count word = pin_count word

-- all operands are numbers of 64 bits
operands_are : (w : ℕ) (f : Function) → IsWidth w → OperandsFit w f → AreNumbers (operand_count (word_for f)) (operands f)
operands_are w Input is fit = (refl, tt)
operands_are w (Const k) is fit =
    let bound : 2 ^ w ≤ 2 ^ GREATEST_WIDTH = pow-le-pow_right (omega arith) is.1 in
    (refl, (omega (arith, fit, bound), tt))
operands_are w (Not a) is fit = are_numbers 1 (a ∷ []) (refl, fit)
operands_are w (And a b) is fit = are_numbers 2 (a ∷ b ∷ []) (refl, fit)
operands_are w (Or a b) is fit = are_numbers 2 (a ∷ b ∷ []) (refl, fit)
operands_are w (Xor a b) is fit = are_numbers 2 (a ∷ b ∷ []) (refl, fit)
operands_are w (Mux s a b) is fit = are_numbers 3 (s ∷ a ∷ b ∷ []) (refl, fit)
operands_are w (Add a b) is fit = are_numbers 2 (a ∷ b ∷ []) (refl, fit)
operands_are w (Sub a b) is fit = are_numbers 2 (a ∷ b ∷ []) (refl, fit)
operands_are w (Eq a b) is fit = are_numbers 2 (a ∷ b ∷ []) (refl, fit)
operands_are w (Less a b) is fit = are_numbers 2 (a ∷ b ∷ []) (refl, fit)
operands_are w (Gate s a) is fit = are_numbers 2 (s ∷ a ∷ []) (refl, fit)
operands_are w (Reg a) is fit = are_numbers 1 (a ∷ []) (refl, fit)

pub width_no_digit : (word : GateWord) → is_ascii_digit (width_end word) ≡ false
width_no_digit gates.Input = refl
width_no_digit gates.Const = refl
width_no_digit gates.Not = refl
width_no_digit gates.And = refl
width_no_digit gates.Or = refl
width_no_digit gates.Xor = refl
width_no_digit gates.Mux = refl
width_no_digit gates.Add = refl
width_no_digit gates.Sub = refl
width_no_digit gates.Eq = refl
width_no_digit gates.Less = refl
width_no_digit gates.Gate = refl
width_no_digit gates.Reg = refl

pub width_code : (word : GateWord) → IsCode ℕ (IsInRange 1 GREATEST_WIDTH) (λ w. ended (width_end word) (decimal w))
width_code word = number_code 1 GREATEST_WIDTH (width_end word) (omega arith) (width_no_digit word)

-- a word, a width and operands
abbrev Parts : List ℕ → Type 0
Parts = Then GateWord (λ _. Unit {0}) (λ word. ended 32 (gate_text word)) (λ word. Then ℕ (IsInRange 1 GREATEST_WIDTH) (λ w. ended (width_end word) (decimal w)) (IsOperandsText word))

joined : (bytes : List ℕ) → Parts bytes → IsCellText bytes
joined bytes (word, rest, is, (w, last, is_w, (f, has, text), middle), whole) =
    let parts : bytes ≡ ended 32 (gate_text word) ++ (ended (width_end word) (decimal w) ++ numbers_text (operands f)) =
    whole ∙ (ap (λ more. ended 32 (gate_text word) ++ more) middle ∙ ap (λ more. ended 32 (gate_text word) ++ (ended (width_end word) (decimal w) ++ more)) text) in
    (record { width = w; gate = f }, (is_w, has.1), subst (λ (u : GateWord). bytes ≡ ended 32 (gate_text u) ++ (ended (width_end u) (decimal w) ++ numbers_text (operands f))) (sym has.0) parts ∙ sym (cell_parts w f))

cut : (bytes : List ℕ) → IsCellText bytes → Parts bytes
cut bytes (c, is, text) =
    let word : GateWord = word_for c.gate in (
      word,
      ended (width_end word) (decimal c.width) ++ numbers_text (operands c.gate),
      tt,
      (c.width, numbers_text (operands c.gate), is.0, (c.gate, (refl, is.1), refl), refl),
      text ∙ cell_parts c.width c.gate,
    )

-- some operands for each word
abbrev template : GateWord → Function
template gates.Input = Input
template gates.Const = Const 0
template gates.Not = Not 0
template gates.And = And 0 0
template gates.Or = Or 0 0
template gates.Xor = Xor 0 0
template gates.Mux = Mux 0 0 0
template gates.Add = Add 0 0
template gates.Sub = Sub 0 0
template gates.Eq = Eq 0 0
template gates.Less = Less 0 0
template gates.Gate = Gate 0 0
template gates.Reg = Reg 0

template_has : (word : GateWord) (w : ℕ) → HasWord word w (template word)
template_has gates.Input w = (refl, tt)
template_has gates.Const w = (refl, omega (arith, one-le-pow w 2 (omega arith)))
template_has gates.Not w = (refl, (omega arith, tt))
template_has gates.And w = (refl, (omega arith, (omega arith, tt)))
template_has gates.Or w = (refl, (omega arith, (omega arith, tt)))
template_has gates.Xor w = (refl, (omega arith, (omega arith, tt)))
template_has gates.Mux w = (refl, (omega arith, (omega arith, (omega arith, tt))))
template_has gates.Add w = (refl, (omega arith, (omega arith, tt)))
template_has gates.Sub w = (refl, (omega arith, (omega arith, tt)))
template_has gates.Eq w = (refl, (omega arith, (omega arith, tt)))
template_has gates.Less w = (refl, (omega arith, (omega arith, tt)))
template_has gates.Gate w = (refl, (omega arith, (omega arith, tt)))
template_has gates.Reg w = (refl, (omega arith, tt))

some_operands : (word : GateWord) (w : ℕ) → IsInRange 1 GREATEST_WIDTH w → (rest : List ℕ) × IsOperandsText word w rest
some_operands word w is = (numbers_text (operands (template word)), (template word, template_has word w, refl))

some_width : (word : GateWord) → Unit {0} → (rest : List ℕ) × Then ℕ (IsInRange 1 GREATEST_WIDTH) (λ w. ended (width_end word) (decimal w)) (IsOperandsText word) rest
some_width word is =
    let more = some_operands word 1 (omega arith, omega arith) in
    (ended (width_end word) (decimal 1) ++ more.0, (1, more.0, (omega arith, omega arith), more.1, refl))

-- the word breaks off
pub no_word : (text : List ℕ) (at place : ℕ) → Misses IsGateText text at place → Misses IsCellText text at place
no_word text at place misses =
    misses_as Parts IsCellText text at place joined cut
    (then_first GateWord (λ _. Unit {0}) (λ word. ended 32 (gate_text word)) (λ word. Then ℕ (IsInRange 1 GREATEST_WIDTH) (λ w. ended (width_end word) (decimal w)) (IsOperandsText word)) text at place some_width misses)

after_word : (word : GateWord) (text : List ℕ) (at mid place : ℕ) → at ≤ mid → mid ≤ length text → slice_range text at mid ≡ ended 32 (gate_text word)
    → Misses (Then ℕ (IsInRange 1 GREATEST_WIDTH) (λ w. ended (width_end word) (decimal w)) (IsOperandsText word)) text mid place → Misses IsCellText text at place
after_word word text at mid place after within first misses =
    misses_as Parts IsCellText text at place joined cut
    (then_rest GateWord (λ _. Unit {0}) (λ word. ended 32 (gate_text word)) (λ word. Then ℕ (IsInRange 1 GREATEST_WIDTH) (λ w. ended (width_end word) (decimal w)) (IsOperandsText word)) text at mid place word gate_code tt after within first misses)

-- the width breaks off
pub no_width : (old mid : TextAt) (word : GateWord) (place : ℕ) → Passed old mid (ended 32 (gate_text word)) → Misses (IsNumberText 1 GREATEST_WIDTH (width_end word)) mid.text mid.at place
    → Misses IsCellText old.text old.at place
no_width old mid word place passed misses =
    after_word word old.text old.at mid.at place passed.after passed.within passed.is
    (then_first ℕ (IsInRange 1 GREATEST_WIDTH) (λ w. ended (width_end word) (decimal w)) (IsOperandsText word) old.text mid.at place (some_operands word)
    (subst (λ (text : List ℕ). Misses (IsNumberText 1 GREATEST_WIDTH (width_end word)) text mid.at place) passed.text misses))

-- the operands break off
pub no_operands : (old mid last : TextAt) (word : GateWord) (w place : ℕ) → Passed old mid (ended 32 (gate_text word)) → IsInRange 1 GREATEST_WIDTH w → Passed mid last (ended (width_end word) (decimal w))
    → Misses (IsOperandsText word w) last.text last.at place → Misses IsCellText old.text old.at place
no_operands old mid last word w place first is second misses =
    let here = subst (λ (text : List ℕ). Misses (IsOperandsText word w) text last.at place) second.text misses in
    after_word word old.text old.at mid.at place first.after first.within first.is
    (subst (λ (text : List ℕ). Misses (Then ℕ (IsInRange 1 GREATEST_WIDTH) (λ w. ended (width_end word) (decimal w)) (IsOperandsText word)) text mid.at place) first.text
    (then_rest ℕ (IsInRange 1 GREATEST_WIDTH) (λ w. ended (width_end word) (decimal w)) (IsOperandsText word) mid.text mid.at last.at place w (width_code word) is second.after second.within second.is here))

-- lines of cells don't begin one another
pub cell_code : IsCode Cell IsWritableCell cell_text
cell_code c d x y is_c is_d same =
    let one = append_assoc (ended 32 (gate_text (word_for c.gate))) (ended (width_end (word_for c.gate)) (decimal c.width) ++ numbers_text (operands c.gate)) x in
    let other = append_assoc (ended 32 (gate_text (word_for d.gate))) (ended (width_end (word_for d.gate)) (decimal d.width) ++ numbers_text (operands d.gate)) y in
    let word = gate_code (word_for c.gate) (word_for d.gate) ((ended (width_end (word_for c.gate)) (decimal c.width) ++ numbers_text (operands c.gate)) ++ x) ((ended (width_end (word_for d.gate)) (decimal d.width) ++ numbers_text (operands d.gate)) ++ y) tt tt
    (sym one ∙ (ap (λ part. part ++ x) (sym (cell_parts c.width c.gate)) ∙ (same ∙ (ap (λ part. part ++ y) (cell_parts d.width d.gate) ∙ other)))) in
    let behind = sym (append_assoc (ended (width_end (word_for c.gate)) (decimal c.width)) (numbers_text (operands c.gate)) x) ∙ (word.1
    ∙ (ap (λ (u : GateWord). (ended (width_end u) (decimal d.width) ++ numbers_text (operands d.gate)) ++ y) (sym word.0) ∙ append_assoc (ended (width_end (word_for c.gate)) (decimal d.width)) (numbers_text (operands d.gate)) y)) in
    let width = width_code (word_for c.gate) c.width d.width (numbers_text (operands c.gate) ++ x) (numbers_text (operands d.gate) ++ y) is_c.0 is_d.0 behind in
    let numbers = numbers_code (operand_count (word_for c.gate)) (operands c.gate) (operands d.gate) x y (operands_are c.width c.gate is_c.0 is_c.1)
    (subst (λ (u : GateWord). AreNumbers (operand_count u) (operands d.gate)) (sym word.0) (operands_are d.width d.gate is_d.0 is_d.1)) width.1 in
    let gate = function_same c.gate d.gate word.0 numbers.0 in
    ((λ i. record { width = width.0 i; gate = gate i }), numbers.1)

-- the items of a cell's line, passed one behind the other
pub cell_passed : (old mid last new : TextAt) (word : GateWord) (w : ℕ) (f : Function) → word_for f ≡ word → Passed old mid (ended 32 (gate_text word)) → Passed mid last (ended (width_end word) (decimal w))
    → Passed last new (numbers_text (operands f)) → Passed old new (cell_text (record { width = w; gate = f }))
cell_passed old mid last new word w f is first second third =
    let all = passed_both old mid new (ended 32 (gate_text word)) (ended (width_end word) (decimal w) ++ numbers_text (operands f)) first (passed_both mid last new (ended (width_end word) (decimal w)) (numbers_text (operands f)) second third) in
    passed_as old new (ended 32 (gate_text word) ++ (ended (width_end word) (decimal w) ++ numbers_text (operands f))) (cell_text (record { width = w; gate = f }))
    (ap (λ (u : GateWord). ended 32 (gate_text u) ++ (ended (width_end u) (decimal w) ++ numbers_text (operands f))) (sym is) ∙ sym (cell_parts w f)) all
