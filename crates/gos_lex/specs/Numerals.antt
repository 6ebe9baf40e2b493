-- Numerals of the source language, in which leading zeros are allowed.
use Rattle.std.specs.Prelude.{ℕ, ◌+◌, ◌-◌, ◌*◌, Bool, false, ◌&&◌, List, [], ◌∷◌}
use Rattle.std.specs.Char.{is_ascii_digit}
use Rattle.std.specs.List.{list_all}

-- one or more decimal digits
abbrev pub is_numeral : List ℕ → Bool
is_numeral [] = false
is_numeral (b ∷ bytes) = is_ascii_digit b && list_all is_ascii_digit bytes

-- the number that these digits write (48 is `0`) when they follow those of `n`
abbrev pub value_after : ℕ → List ℕ → ℕ
value_after n [] = n
value_after n (b ∷ bytes) = value_after (10 * n + (b - 48)) bytes

-- the number that the digits write
abbrev pub value_of : List ℕ → ℕ
value_of bytes = value_after 0 bytes
