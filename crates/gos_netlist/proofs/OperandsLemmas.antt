-- The operands of a cell: a constant, or so many nets as its word has.
use Rattle.std.proofs.Common.{◌≡◌, ℕ, ◌-◌, ◌^◌, ◌<◌, List, [], ◌∷◌, length, refl, sym, ◌∙◌, ap, subst, arith, append-nil}
use Rattle.std.specs.Fmt.{decimal}
use Rattle.std.specs.List.{AllByRecursion}
use Rattle.std.proofs.Math.Nat.{one-le-pow}
use Rattle.gos_lex.specs.Items.{Misses}
use Rattle.gos_netlist.specs.declared.word.GateWord.{GateWord}
use Rattle.gos_netlist.specs.declared.word.GateWord.TheVariants as gates
use Rattle.gos_netlist.specs.Nets.{Function, Input, Const, Not, And, Or, Xor, Mux, Add, Sub, Eq, Less, Gate, Reg}
use Rattle.gos_netlist.specs.NetText.{operands}
use Rattle.gos_netlist.specs.Writable.{IsNumber, OperandsFit}
use Rattle.gos_lex.specs.ItemTexts.{IsNumberText, ended}
use Rattle.gos_netlist.specs.inner.NetLines.{numbers_text, AreNets, IsNetsText, word_for, pin_count, HasWord, IsOperandsText}
use Rattle.gos_lex.proofs.SequenceLemmas.{misses_as}

-- a function with the word of constants is one
constant_of : (w : ℕ) (f : Function) → word_for f ≡ gates.Const → OperandsFit w f → (k : ℕ) × (k < 2 ^ w) × (f ≡ Const k)
constant_of w Input is fit = absurd cc
constant_of w (Const k) is fit = (k, fit, refl)
constant_of w (Not a) is fit = absurd cc
constant_of w (And a b) is fit = absurd cc
constant_of w (Or a b) is fit = absurd cc
constant_of w (Xor a b) is fit = absurd cc
constant_of w (Mux s a b) is fit = absurd cc
constant_of w (Add a b) is fit = absurd cc
constant_of w (Sub a b) is fit = absurd cc
constant_of w (Eq a b) is fit = absurd cc
constant_of w (Less a b) is fit = absurd cc
constant_of w (Gate s a) is fit = absurd cc
constant_of w (Reg a) is fit = absurd cc

-- where the number breaks off, the constant does
pub no_constant : (w high : ℕ) → high ≡ 2 ^ w - 1 → (text : List ℕ) (at place : ℕ) → Misses (IsNumberText 0 high 10) text at place → Misses (IsOperandsText gates.Const w) text at place
no_constant w high is text at place =
    misses_as (IsNumberText 0 high 10) (IsOperandsText gates.Const w) text at place to from
  where
    to : (bytes : List ℕ) → IsNumberText 0 high 10 bytes → IsOperandsText gates.Const w bytes
    to bytes (k, range, whole) =
        (Const k, (refl, omega (arith, range.1, is, one-le-pow w 2 (omega arith))), whole ∙ sym (append-nil (ended 10 (decimal k))))

    from : (bytes : List ℕ) → IsOperandsText gates.Const w bytes → IsNumberText 0 high 10 bytes
    from bytes (f, has, whole) =
        let known = constant_of w f has.0 has.1 in
        (known.0, (omega arith, omega (arith, known.1, is)), whole ∙ (ap (λ (g : Function). numbers_text (operands g)) known.2 ∙ append-nil (ended 10 (decimal known.0))))

one_of_one : (ns : List ℕ) → length ns ≡ 1 → (a : ℕ) × (ns ≡ a ∷ [])
one_of_one [] long = absurd (omega (arith, long))
one_of_one (a ∷ []) long = (a, refl)
one_of_one (a ∷ b ∷ ns) long = absurd (omega (arith, long))

two_of_two : (ns : List ℕ) → length ns ≡ 2 → (a : ℕ) × (b : ℕ) × (ns ≡ a ∷ b ∷ [])
two_of_two [] long = absurd (omega (arith, long))
two_of_two (a ∷ ns) long = let rest = one_of_one ns (omega (arith, long)) in (a, rest.0, ap (λ more. a ∷ more) rest.1)

three_of_three : (ns : List ℕ) → length ns ≡ 3 → (a : ℕ) × (b : ℕ) × (d : ℕ) × (ns ≡ a ∷ b ∷ d ∷ [])
three_of_three [] long = absurd (omega (arith, long))
three_of_three (a ∷ ns) long = let rest = two_of_two ns (omega (arith, long)) in (a, rest.0, rest.1, ap (λ more. a ∷ more) rest.2)

-- a function with this word that names these nets
abbrev Makes : GateWord → ℕ → List ℕ → Type 0
Makes word w ns = (f : Function) × HasWord word w f × (operands f ≡ ns)

with_one : (word : GateWord) (w : ℕ) (make : ℕ → Function) → ((a : ℕ) → IsNumber a → HasWord word w (make a) × (operands (make a) ≡ a ∷ [])) → (ns : List ℕ) → AreNets 1 ns → Makes word w ns
with_one word w make holds ns are =
    let s = one_of_one ns are.0 in
    let all : AllByRecursion IsNumber (s.0 ∷ []) = subst (AllByRecursion IsNumber) s.1 are.1 in
    let known = holds s.0 all.0 in
    (make s.0, known.0, known.1 ∙ sym s.1)

with_two : (word : GateWord) (w : ℕ) (make : ℕ → ℕ → Function) → ((a b : ℕ) → IsNumber a → IsNumber b → HasWord word w (make a b) × (operands (make a b) ≡ a ∷ b ∷ [])) → (ns : List ℕ) → AreNets 2 ns → Makes word w ns
with_two word w make holds ns are =
    let s = two_of_two ns are.0 in
    let all : AllByRecursion IsNumber (s.0 ∷ s.1 ∷ []) = subst (AllByRecursion IsNumber) s.2 are.1 in
    let known = holds s.0 s.1 all.0 all.1.0 in
    (make s.0 s.1, known.0, known.1 ∙ sym s.2)

from_nets : (word : GateWord) (w : ℕ) → 0 < pin_count word → (ns : List ℕ) → AreNets (pin_count word) ns → Makes word w ns
from_nets gates.Input w some ns are = absurd (omega (arith, some))
from_nets gates.Const w some ns are = absurd (omega (arith, some))
from_nets gates.Not w some ns are = with_one gates.Not w Not (λ a is. ((refl, (is, tt)), refl)) ns are
from_nets gates.And w some ns are = with_two gates.And w And (λ a b is_a is_b. ((refl, (is_a, (is_b, tt))), refl)) ns are
from_nets gates.Or w some ns are = with_two gates.Or w Or (λ a b is_a is_b. ((refl, (is_a, (is_b, tt))), refl)) ns are
from_nets gates.Xor w some ns are = with_two gates.Xor w Xor (λ a b is_a is_b. ((refl, (is_a, (is_b, tt))), refl)) ns are
from_nets gates.Mux w some ns are =
    let s = three_of_three ns are.0 in
    (Mux s.0 s.1 s.2, (refl, subst (AllByRecursion IsNumber) s.3 are.1), sym s.3)
from_nets gates.Add w some ns are = with_two gates.Add w Add (λ a b is_a is_b. ((refl, (is_a, (is_b, tt))), refl)) ns are
from_nets gates.Sub w some ns are = with_two gates.Sub w Sub (λ a b is_a is_b. ((refl, (is_a, (is_b, tt))), refl)) ns are
from_nets gates.Eq w some ns are = with_two gates.Eq w Eq (λ a b is_a is_b. ((refl, (is_a, (is_b, tt))), refl)) ns are
from_nets gates.Less w some ns are = with_two gates.Less w Less (λ a b is_a is_b. ((refl, (is_a, (is_b, tt))), refl)) ns are
from_nets gates.Gate w some ns are = with_two gates.Gate w Gate (λ a b is_a is_b. ((refl, (is_a, (is_b, tt))), refl)) ns are
from_nets gates.Reg w some ns are = with_one gates.Reg w Reg (λ a is. ((refl, (is, tt)), refl)) ns are

-- the nets of a function that names some
pins_are : (w : ℕ) (f : Function) → 0 < pin_count (word_for f) → OperandsFit w f → AreNets (pin_count (word_for f)) (operands f)
pins_are w Input some fit = absurd (omega (arith, some))
pins_are w (Const k) some fit = absurd (omega (arith, some))
pins_are w (Not a) some fit = (refl, fit)
pins_are w (And a b) some fit = (refl, fit)
pins_are w (Or a b) some fit = (refl, fit)
pins_are w (Xor a b) some fit = (refl, fit)
pins_are w (Mux s a b) some fit = (refl, fit)
pins_are w (Add a b) some fit = (refl, fit)
pins_are w (Sub a b) some fit = (refl, fit)
pins_are w (Eq a b) some fit = (refl, fit)
pins_are w (Less a b) some fit = (refl, fit)
pins_are w (Gate s a) some fit = (refl, fit)
pins_are w (Reg a) some fit = (refl, fit)

-- where the nets break off, the operands do
pub no_nets : (word : GateWord) (w : ℕ) → 0 < pin_count word → (text : List ℕ) (at place : ℕ) → Misses (IsNetsText (pin_count word)) text at place → Misses (IsOperandsText word w) text at place
no_nets word w some text at place =
    misses_as (IsNetsText (pin_count word)) (IsOperandsText word w) text at place to from
  where
    to : (bytes : List ℕ) → IsNetsText (pin_count word) bytes → IsOperandsText word w bytes
    to bytes (ns, are, whole) =
        let made = from_nets word w some ns are in
        (made.0, made.1, whole ∙ ap numbers_text (sym made.2))

    from : (bytes : List ℕ) → IsOperandsText word w bytes → IsNetsText (pin_count word) bytes
    from bytes (f, has, whole) =
        (operands f, subst (λ (u : GateWord). AreNets (pin_count u) (operands f)) has.0 (pins_are w f (subst (λ (u : GateWord). 0 < pin_count u) (sym has.0) some) has.1), whole)
