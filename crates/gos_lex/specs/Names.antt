-- What a name is. The source language keeps its words from being names; the machine formats don't.
use Rattle.std.specs.Prelude.{◌≡◌, ℕ, ◌≤◌, Bool, false, ◌&&◌, List, [], ◌∷◌, length, IsTrue}
use Rattle.std.specs.List.{list_all}
use Rattle.gos_lex.specs.Bytes.{begins_name, continues_name}
use Rattle.gos_lex.specs.Words.{is_word}

-- a letter or `_`, then letters, digits and `_`, of any length
abbrev pub spells_name : List ℕ → Bool
spells_name [] = false
spells_name (b ∷ bytes) = begins_name b && list_all continues_name bytes

-- spelled as a name
abbrev pub IsSpelled : List ℕ → Type 0
IsSpelled bytes = IsTrue (spells_name bytes)

-- a name, or a word in the place of one, as the machine formats take it
pub record IsNameOrWord (bytes : List ℕ) : Type 0 where
  pub spelled : IsTrue (spells_name bytes)
  pub short : length bytes ≤ 255

-- a name of the source language
pub record IsName (bytes : List ℕ) : Type 0 where
  pub spelled : IsTrue (spells_name bytes)
  pub short : length bytes ≤ 255
  pub no_word : is_word bytes ≡ false
