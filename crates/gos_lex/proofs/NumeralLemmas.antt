-- The value of a numeral never falls with more digits.
use Rattle.std.proofs.Common.{◌≡◌, ℕ, suc, ◌+◌, ◌-◌, ◌*◌, ◌<◌, ◌≤◌, List, [], ◌∷◌, length, drop, get_or, ap, arith, drop-cons}
use Rattle.gos_lex.specs.declared.numeral.TheConstants.{GREATEST_NUMERAL}
use Rattle.gos_lex.specs.Numerals.{value_after, value_of}

value_grows : (n : ℕ) (bytes : List ℕ) → n ≤ value_after n bytes
value_grows n [] = omega arith
value_grows n (b ∷ bytes) = omega (arith, value_grows (10 * n + (b - 48)) bytes)

-- a value that is too great so far is too great in the end
pub too_great : (bytes : List ℕ) (i n : ℕ) → i < length bytes → value_after n (drop i bytes) ≡ value_of bytes → GREATEST_NUMERAL < 10 * n + (get_or bytes i 0 - 48) → GREATEST_NUMERAL < value_of bytes
too_great bytes i n inside is above =
    let next : value_after n (drop i bytes) ≡ value_after (10 * n + (get_or bytes i 0 - 48)) (drop (suc i) bytes) = ap (value_after n) (drop-cons bytes i 0 inside) in
    omega (arith, is, next, value_grows (10 * n + (get_or bytes i 0 - 48)) (drop (suc i) bytes), above)
