-- The tokens of a text, or why it has none.
--
-- Read first: Lexemes (what may stand as a token), Gaps (what separates tokens).
-- Places count bytes from 0. Nothing here depends on how the text is gone through.
use Rattle.std.specs.Prelude.{◌≡◌, ℕ, ◌-◌, ◌<◌, ◌≤◌, List, [], ◌∷◌, length, drop, map, IsTrue, Option, Some, None}
use Rattle.std.specs.List.{slice_range}
use Rattle.gos_lex.specs.declared.numeral.TheConstants.{GREATEST_NUMERAL}
use Rattle.gos_lex.specs.declared.word.Word.{Word}
use Rattle.gos_lex.specs.declared.sign.Sign.{Sign}
use Rattle.gos_lex.specs.declared.token.Token.{Token}
use Rattle.gos_lex.specs.declared.token.TokenKind.{TokenKind}
use Rattle.gos_lex.specs.declared.token.TokenKind.TheVariants as kinds
use Rattle.gos_lex.specs.declared.fault.LexFault.{LexFault}
use Rattle.gos_lex.specs.declared.fault.LexFault.TheVariants as faults
use Rattle.gos_lex.specs.Words.{word_text}
use Rattle.gos_lex.specs.Signs.{sign_text}
use Rattle.gos_lex.specs.Names.{spells_name, IsName}
use Rattle.gos_lex.specs.Numerals.{is_numeral, value_of}
use Rattle.gos_lex.specs.Lexemes.{is_lexeme, IsLongest}
use Rattle.gos_lex.specs.Gaps.{IsSkipped}

-- the bytes of a token are of its kind
abbrev pub IsOfKind : List ℕ → TokenKind → Type 0
IsOfKind bytes kinds.Name = IsName bytes
IsOfKind bytes (kinds.Number n) = IsTrue (is_numeral bytes) × (value_of bytes ≡ n) × (n ≤ GREATEST_NUMERAL)
IsOfKind bytes (kinds.Word word) = bytes ≡ word_text word
IsOfKind bytes (kinds.Sign sign) = bytes ≡ sign_text sign

-- a numeral whose value is above that of any token
abbrev pub IsTooGreat : List ℕ → Type 0
IsTooGreat bytes = IsTrue (is_numeral bytes) × (GREATEST_NUMERAL < value_of bytes)

-- spelled as a name, and longer than any
abbrev pub IsTooLong : List ℕ → Type 0
IsTooLong bytes = IsTrue (spells_name bytes) × (255 < length bytes)

-- after the blanks and comments from `at` on, a lexeme stands at from to to, and no longer one
pub record HasLexeme (text : List ℕ) (at from to : ℕ) : Type 0 where
  pub skipped : IsSkipped text at from
  pub some : from < to
  pub within : to ≤ length text
  pub lexeme : IsTrue (is_lexeme (slice_range text from to))
  pub longest : IsLongest (to - from) (drop from text)

-- after the blanks and comments from `at` on, a byte stands at `from` with which no lexeme begins
pub record HasNoLexeme (text : List ℕ) (at from : ℕ) : Type 0 where
  pub skipped : IsSkipped text at from
  pub within : from < length text
  pub none : IsLongest 0 (drop from text)

-- the first token after a place
pub record IsNext (text : List ℕ) (at : ℕ) (token : Token) : Type 0 where
  pub lexeme : HasLexeme text at token.span.from token.span.to
  pub kind : IsOfKind (slice_range text token.span.from token.span.to) token.kind

-- a token of the text: its place lies within, and its bytes are of its kind
pub record StandsIn (text : List ℕ) (token : Token) : Type 0 where
  pub some : token.span.from < token.span.to
  pub within : token.span.to ≤ length text
  pub kind : IsOfKind (slice_range text token.span.from token.span.to) token.kind

-- what comes in place of a token: the end of the text, or the first fault
abbrev pub EndsWith : List ℕ → ℕ → Option LexFault → Type 0
EndsWith text at None = IsSkipped text at (length text)
EndsWith text at (Some (faults.Byte from)) = HasNoLexeme text at from
EndsWith text at (Some (faults.Number from)) = (to : ℕ) × HasLexeme text at from to × IsTooGreat (slice_range text from to)
EndsWith text at (Some (faults.Name from)) = (to : ℕ) × HasLexeme text at from to × IsTooLong (slice_range text from to)
EndsWith text at (Some (faults.TooLong len)) = ⊥
EndsWith text at (Some faults.NoMemory) = ⊥

-- the tokens from a place on, and what comes after them
abbrev pub Reads : List ℕ → ℕ → List Token → Option LexFault → Type 0
Reads text at [] ending = EndsWith text at ending
Reads text at (token ∷ tokens) ending = IsNext text at token × Reads text token.span.to tokens ending

-- why a text is refused; want of memory has no cause in the text
abbrev pub HasFault : List ℕ → LexFault → Type 0
HasFault text (faults.TooLong len) = (65536 < length text) × (len ≡ length text)
HasFault text faults.NoMemory = Unit {0}
HasFault text fault = (length text ≤ 65536) × (tokens : List Token) × Reads text 0 tokens (Some fault)

-- a token as a reader of the text sees it: without its place, and with the bytes of a name
pub data Reading : Type 0 where
  AName : (bytes : List ℕ) → Reading
  ANumber : (value : ℕ) → Reading
  AWord : (word : Word) → Reading
  ASign : (sign : Sign) → Reading

-- what a kind of token is seen as, where the token has these bytes
abbrev pub reading_as : List ℕ → TokenKind → Reading
reading_as bytes kinds.Name = AName bytes
reading_as bytes (kinds.Number n) = ANumber n
reading_as bytes (kinds.Word word) = AWord word
reading_as bytes (kinds.Sign sign) = ASign sign

-- what a token of the text is seen as
abbrev pub reading_of : List ℕ → Token → Reading
reading_of text token = reading_as (slice_range text token.span.from token.span.to) token.kind

-- what the tokens of the text are seen as, in order
abbrev pub readings_of : List ℕ → List Token → List Reading
readings_of text tokens = map (reading_of text) tokens
