-- Numbers in files that are written by hand.
use Rattle.std.specs.Prelude.{◌≡◌, ◌<◌, ◌^◌, ℕ, IsTrue}
use Rattle.gos_lex.specs.Numerals.{is_numeral, value_of}
use Rattle.gos_lex.specs.Lines.{Word}

-- the word writes the number, which has at most 64 bits; leading zeros are allowed
abbrev pub IsNumber : Word → ℕ → Type 0
IsNumber word n = IsTrue (is_numeral word) × (value_of word ≡ n) × (n < 2 ^ 64)
