-- The value of a numeral grows with each digit, so once it is too great it stays so.
use Rattle.std.proofs.Common.{drop, drop-cons, get_or, suc, ap, ◌∙◌, ◌≡◌, ◌≤◌, ◌<◌, ◌+◌, ◌-◌, ◌*◌, ℕ, List, [], ◌∷◌, arith, length}
use Rattle.std.specs.Prelude.{refl, ◌^◌}
use Rattle.std.specs.Char.{is_ascii_digit}
use Rattle.std.specs.List.{list_all}
use Rattle.std.proofs.lemmas.List.{at_drop_all}
use Rattle.gos_lex.specs.Numerals.{value_after, value_of, is_numeral}
use Rattle.gos_lex.specs.LineNumbers.{IsNumber}

value_grows : (n : ℕ) (bytes : List ℕ) → n ≤ value_after n bytes
value_grows n [] = omega arith
value_grows n (b ∷ bytes) = let more = value_grows (10 * n + (b - 48)) bytes in omega (arith, more)

pub numeral_of_some : (word : List ℕ) → 1 ≤ length word → is_numeral word ≡ list_all is_ascii_digit word
numeral_of_some [] some = absurd (omega arith)
numeral_of_some (b ∷ bytes) some = refl

-- where one more digit makes the value so far too great, the word writes no number
pub too_great : (word : List ℕ) (at value : ℕ) → at < length word → value_of word ≡ value_after value (drop at word) → 2 ^ 64 ≤ 10 * value + (get_or word at 0 - 48) → (n : ℕ) → IsNumber word n → ⊥
too_great word at value inside so_far great n number =
    let next : value_after value (drop at word) ≡ value_after (10 * value + (get_or word at 0 - 48)) (drop (suc at) word) = ap (value_after value) (drop-cons word at 0 inside) in
    let grown = value_grows (10 * value + (get_or word at 0 - 48)) (drop (suc at) word) in
    let whole : value_of word ≡ value_after (10 * value + (get_or word at 0 - 48)) (drop (suc at) word) = so_far ∙ next in
    let value_is = number.1 in
    let bound = number.2 in
    omega (arith, grown, whole, value_is, bound, great)

-- after the last digit the value so far is that of the word
pub whole_value : (word : List ℕ) (at value : ℕ) → length word ≤ at → value_of word ≡ value_after value (drop at word) → value_of word ≡ value
whole_value word at value past so_far = so_far ∙ at_drop_all (value_after value) word at past
