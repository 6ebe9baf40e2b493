-- Texts that are written token by token, with a space behind most tokens.
use Rattle.std.proofs.Common.{◌≡◌, ℕ, zero, suc, List, [], ◌∷◌, ◌++◌, Option, Some, None, refl, ◌∙◌, ap, arith, true, false}
use Rattle.gos_lex.specs.declared.word.Word.{Word}
use Rattle.gos_lex.specs.declared.sign.Sign.{Sign}
use Rattle.gos_lex.specs.declared.sign.Sign.TheVariants as signs
use Rattle.gos_lex.specs.declared.token.TokenKind.TheVariants as kinds
use Rattle.gos_lex.specs.declared.token.Token.{Token}
use Rattle.gos_lex.specs.Names.{spells_name, IsName}
use Rattle.gos_lex.specs.Words.{word_text, is_word}
use Rattle.gos_lex.specs.Signs.{sign_text}
use Rattle.gos_lex.specs.Tokens.{Reading, AName, AWord, ASign, readings_of}
use Rattle.gos_syntax.specs.Items.{Item, items_of, reading_at}
use Rattle.gos_syntax.proofs.WrittenLemmas.{Written, nothing, a_blank, a_token}
use Rattle.gos_syntax.proofs.LexemeLemmas.{word_lexed, name_lexed, sign_lexed, space_ends}

-- a name of one byte
pub one_letter : (b : ℕ) → spells_name (b ∷ []) ≡ true → is_word (b ∷ []) ≡ false → IsName (b ∷ [])
one_letter b spelled no_word = record { spelled = spelled; short = omega arith; no_word = no_word }

-- a word, a sign or a letter, and a space
pub word : (w : Word) (rest : List ℕ) (more : List Reading) → Written rest more → Written (word_text w ++ 32 ∷ rest) (AWord w ∷ more)
word w rest more written = a_token (word_text w) (32 ∷ rest) (kinds.Word w) more (word_lexed w (32 ∷ rest) refl) (a_blank 32 rest more refl written)

pub sign : (s : Sign) (rest : List ℕ) (more : List Reading) → Written rest more → Written (sign_text s ++ 32 ∷ rest) (ASign s ∷ more)
sign s rest more written =
    a_token (sign_text s) (32 ∷ rest) (kinds.Sign s) more (sign_lexed s (32 ∷ rest) (space_ends s rest)) (a_blank 32 rest more refl written)

pub letter : (b : ℕ) → IsName (b ∷ []) → (rest : List ℕ) (more : List Reading) → Written rest more → Written (b ∷ 32 ∷ rest) (AName (b ∷ []) ∷ more)
letter b is rest more written = a_token (b ∷ []) (32 ∷ rest) kinds.Name more (name_lexed (b ∷ []) (32 ∷ rest) is refl) (a_blank 32 rest more refl written)

-- a word at the end of the text
pub last_word : (w : Word) → Written (word_text w ++ 10 ∷ []) (AWord w ∷ [])
last_word w = a_token (word_text w) (10 ∷ []) (kinds.Word w) [] (word_lexed w (10 ∷ []) refl) (a_blank 10 [] [] refl nothing)

-- brackets, and what stands before one or before a comma, without a space
pub opened : (rest : List ℕ) (more : List Reading) → Written rest more → Written (40 ∷ rest) (ASign signs.Open ∷ more)
opened rest more written = a_token (sign_text signs.Open) rest (kinds.Sign signs.Open) more (sign_lexed signs.Open rest tt) written

pub closed : (rest : List ℕ) (more : List Reading) → Written rest more → Written (41 ∷ rest) (ASign signs.Close ∷ more)
closed rest more written = a_token (sign_text signs.Close) rest (kinds.Sign signs.Close) more (sign_lexed signs.Close rest tt) written

pub word_closed : (w : Word) (rest : List ℕ) (more : List Reading) → Written (41 ∷ rest) more → Written (word_text w ++ 41 ∷ rest) (AWord w ∷ more)
word_closed w rest more written = a_token (word_text w) (41 ∷ rest) (kinds.Word w) more (word_lexed w (41 ∷ rest) refl) written

pub letter_comma : (b : ℕ) → IsName (b ∷ []) → (rest : List ℕ) (more : List Reading) → Written (44 ∷ rest) more → Written (b ∷ 44 ∷ rest) (AName (b ∷ []) ∷ more)
letter_comma b is rest more written = a_token (b ∷ []) (44 ∷ rest) kinds.Name more (name_lexed (b ∷ []) (44 ∷ rest) is refl) written

-- the reading of this number
abbrev pub nth : List Reading → ℕ → Option Reading
nth [] i = None
nth (r ∷ rs) zero = Some r
nth (r ∷ rs) (suc i) = nth rs i

-- items that are read as these
abbrev pub AreRead : List Item → List Reading → Type 0
AreRead items rs = (i : ℕ) → reading_at items i ≡ nth rs i

read_at : (text : List ℕ) (tokens : List Token) (i : ℕ) → reading_at (items_of text tokens) i ≡ nth (readings_of text tokens) i
read_at text [] i = refl
read_at text (t ∷ tokens) zero = refl
read_at text (t ∷ tokens) (suc i) = read_at text tokens i

pub are_read : (text : List ℕ) (tokens : List Token) (rs : List Reading) → readings_of text tokens ≡ rs → AreRead (items_of text tokens) rs
are_read text tokens rs same i = read_at text tokens i ∙ ap (λ (r : List Reading). nth r i) same
