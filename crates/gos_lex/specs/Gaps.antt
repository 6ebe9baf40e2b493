-- What separates tokens: blanks and comments. A comment runs from `#` to just before a line feed or to the end.
use Rattle.std.specs.Prelude.{◌≡◌, ℕ, ◌≤◌, Bool, true, false, ◌≢◌, ◌⊎◌, List, [], ◌∷◌, length, drop, IsTrue}
use Rattle.std.specs.List.{slice_range}
use Rattle.gos_lex.specs.Bytes.{is_blank}

-- The bytes before `rest` are blanks and whole comments. The flag says that they begin inside a comment.
-- 35 is `#`, and 10 a line feed. A comment that ends with no line feed ends with the text.
abbrev pub IsGap : Bool → List ℕ → List ℕ → Type 0
IsGap false [] rest = Unit {0}
IsGap false (b ∷ gap) rest = (IsTrue (is_blank b) × IsGap false gap rest) ⊎ ((b ≡ 35) × IsGap true gap rest)
IsGap true [] rest = rest ≡ []
IsGap true (b ∷ gap) rest = ((b ≢ 10) × IsGap true gap rest) ⊎ ((b ≡ 10) × IsGap false gap rest)

-- neither a blank nor a comment begins here
abbrev pub BeginsNoGap : List ℕ → Type 0
BeginsNoGap [] = Unit {0}
BeginsNoGap (b ∷ rest) = (is_blank b ≡ false) × (b ≢ 35)

-- the blanks and comments from `at` on end at `from`
pub record IsSkipped (text : List ℕ) (at from : ℕ) : Type 0 where
  pub after : at ≤ from
  pub within : from ≤ length text
  pub gap : IsGap false (slice_range text at from) (drop from text)
  pub whole : BeginsNoGap (drop from text)
