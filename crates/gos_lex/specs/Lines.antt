-- The lines and words of a file that is written by hand: the build file and the pulse file.
--
-- Words are separated by blanks. A line without words and a line whose first word begins with `#` are passed over. A carriage
-- return belongs to no line where a line feed follows it (`lines` of std leaves it out).
use Rattle.std.specs.Prelude.{ℕ, suc, if◌then◌else◌, Bool, true, false, not, ◌||◌, ◌&&◌, ◌==◌, List, [], ◌∷◌, filter, map}
use Rattle.std.specs.List.{list_any, slice_split}
use Rattle.std.specs.Str.{bytes_eq}
use Rattle.std.specs.Str.Lines.{lines}

-- the bytes of a word, the words of a line, the lines of a file
abbrev pub Word : Type 0
Word = List ℕ

abbrev pub Words : Type 0
Words = List Word

-- whether no two of the words are the same
abbrev pub all_differ : Words → Bool
all_differ [] = true
all_differ (word ∷ words) = not (list_any (bytes_eq word) words) && all_differ words

-- a space or a tab
abbrev pub is_blank : ℕ → Bool
is_blank b = (b == 32) || (b == 9)

abbrev pub is_some_word : Word → Bool
is_some_word [] = false
is_some_word (b ∷ bytes) = true

-- the words of a line
abbrev pub words_of : List ℕ → Words
words_of line = filter is_some_word (slice_split is_blank line)

-- whether a word is the beginning of a comment
abbrev pub begins_comment : Word → Bool
begins_comment [] = false
begins_comment (b ∷ bytes) = b == 35

-- whether a line says something
abbrev pub says_something : Words → Bool
says_something [] = false
says_something (word ∷ words) = not (begins_comment word)

-- what a file says: the words of its lines, without the lines that are passed over
abbrev pub content_of : List ℕ → List Words
content_of text = filter says_something (map words_of (lines text))

-- a line that says something: its number and its words
pub record Statement : Type 0 where
  pub line : ℕ
  pub words : Words

-- a statement of line n before others, if the line says something
abbrev pub with_line : ℕ → Words → List Statement → List Statement
with_line n words others = if says_something words then (record { line = n; words = words }) ∷ others else others

-- the statements of lines of which the first has number n; those that are passed over count too
abbrev pub statements_from : ℕ → List (List ℕ) → List Statement
statements_from n [] = []
statements_from n (line ∷ lines) = with_line n (words_of line) (statements_from (suc n) lines)

-- the statements of a text, whose first line has number 1
abbrev pub statements_of : List ℕ → List Statement
statements_of text = statements_from 1 (lines text)
