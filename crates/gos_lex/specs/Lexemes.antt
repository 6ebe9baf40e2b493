-- What may stand as one token, of any length and value, and which one is taken: the longest.
use Rattle.std.specs.Prelude.{ℕ, ◌≤◌, Bool, ◌||◌, List, length, take, IsTrue}
use Rattle.gos_lex.specs.Names.{spells_name}
use Rattle.gos_lex.specs.Numerals.{is_numeral}
use Rattle.gos_lex.specs.Signs.{is_sign}

-- a name or word, a numeral, or a sign
abbrev pub is_lexeme : List ℕ → Bool
is_lexeme bytes = spells_name bytes || (is_numeral bytes || is_sign bytes)

-- no lexeme at the front of the text has more bytes than `len`
abbrev pub IsLongest : ℕ → List ℕ → Type 0
IsLongest len text = (n : ℕ) → n ≤ length text → IsTrue (is_lexeme (take n text)) → n ≤ len
