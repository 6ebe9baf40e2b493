-- What a lexeme is read as is settled by its bytes.
use Rattle.std.proofs.Common.{◌≡◌, ℕ, true, false, cond, List, [], ◌∷◌, length, nat_lt, refl, ◌∙◌, ap, arith, Option, Some}
use Rattle.std.specs.Char.{is_ascii_digit}
use Rattle.std.specs.List.{list_all}
use Rattle.std.specs.Str.{bytes_eq}
use Rattle.std.proofs.lemmas.Bool.{and_parts, lt-ltb, le-ltb}
use Rattle.gos_lex.specs.declared.numeral.TheConstants.{GREATEST_NUMERAL}
use Rattle.gos_lex.specs.declared.word.Word.{Word}
use Rattle.gos_lex.specs.declared.word.Word.TheVariants as words
use Rattle.gos_lex.specs.declared.sign.Sign.{Sign}
use Rattle.gos_lex.specs.declared.sign.Sign.TheVariants as signs
use Rattle.gos_lex.specs.declared.token.TokenKind.{TokenKind}
use Rattle.gos_lex.specs.declared.token.TokenKind.TheVariants as kinds
use Rattle.gos_lex.specs.declared.fault.LexFault.{LexFault}
use Rattle.gos_lex.specs.declared.fault.LexFault.TheVariants as faults
use Rattle.gos_lex.specs.Words.{word_text, all_words, is_word}
use Rattle.gos_lex.specs.Signs.{sign_text, all_signs}
use Rattle.gos_lex.specs.Names.{spells_name}
use Rattle.gos_lex.specs.Numerals.{is_numeral, value_of}
use Rattle.gos_lex.specs.Tokens.{IsOfKind, IsTooGreat, IsTooLong}
use Rattle.gos_lex.proofs.RunLemmas.{digit_no_name}

-- what may stand next: a token of some kind, or the ending of the tokens
pub data Outcome : Type 0 where
  AToken : (kind : TokenKind) → Outcome
  AnEnd : (ending : Option LexFault) → Outcome

-- the first of these that is written so, and another one where none is
abbrev among : {A : Type 0} → (A → List ℕ) → A → List A → List ℕ → A
among {A} text other [] bytes = other
among {A} text other (x ∷ xs) bytes = cond (bytes_eq bytes (text x)) x (among text other xs bytes)

-- what the bytes of a lexeme that begins at `from` are read as
abbrev pub class_of : ℕ → List ℕ → Outcome
class_of from bytes =
    cond (spells_name bytes)
    (cond (nat_lt 255 (length bytes)) (AnEnd (Some (faults.Name from))) (AToken (cond (is_word bytes) (kinds.Word (among word_text words.Var all_words bytes)) kinds.Name)))
    (cond (is_numeral bytes)
    (cond (nat_lt GREATEST_NUMERAL (value_of bytes)) (AnEnd (Some (faults.Number from))) (AToken (kinds.Number (value_of bytes))))
    (AToken (kinds.Sign (among sign_text signs.Arrow all_signs bytes))))

class_of_word : (from : ℕ) (word : Word) → class_of from (word_text word) ≡ AToken (kinds.Word word)
class_of_word from words.Import = refl
class_of_word from words.Export = refl
class_of_word from words.Fun = refl
class_of_word from words.Fst = refl
class_of_word from words.Snd = refl
class_of_word from words.If = refl
class_of_word from words.Then = refl
class_of_word from words.Else = refl
class_of_word from words.While = refl
class_of_word from words.Do = refl
class_of_word from words.New = refl
class_of_word from words.In = refl
class_of_word from words.Skip = refl
class_of_word from words.Not = refl
class_of_word from words.Com = refl
class_of_word from words.Exp = refl
class_of_word from words.Var = refl

class_of_sign : (from : ℕ) (sign : Sign) → class_of from (sign_text sign) ≡ AToken (kinds.Sign sign)
class_of_sign from signs.Open = refl
class_of_sign from signs.Close = refl
class_of_sign from signs.OpenSquare = refl
class_of_sign from signs.CloseSquare = refl
class_of_sign from signs.Comma = refl
class_of_sign from signs.Dot = refl
class_of_sign from signs.Colon = refl
class_of_sign from signs.Semicolon = refl
class_of_sign from signs.Assign = refl
class_of_sign from signs.Parallel = refl
class_of_sign from signs.Or = refl
class_of_sign from signs.And = refl
class_of_sign from signs.Xor = refl
class_of_sign from signs.Plus = refl
class_of_sign from signs.Minus = refl
class_of_sign from signs.Equal = refl
class_of_sign from signs.Less = refl
class_of_sign from signs.Bang = refl
class_of_sign from signs.Star = refl
class_of_sign from signs.Arrow = refl

numeral_no_name : (bytes : List ℕ) → is_numeral bytes ≡ true → spells_name bytes ≡ false
numeral_no_name [] h = refl
numeral_no_name (b ∷ bytes) h =
    let first = and_parts (is_ascii_digit b) (list_all is_ascii_digit bytes) h in
    rw (digit_no_name b first.0) refl

-- what is read as a kind is read as no other
pub class_of_kind : (from : ℕ) (bytes : List ℕ) (kind : TokenKind) → IsOfKind bytes kind → class_of from bytes ≡ AToken kind
class_of_kind from bytes kinds.Name is =
    let short = le-ltb 255 (length bytes) is.short in
    rw (is.spelled, short, is.no_word) refl
class_of_kind from bytes (kinds.Number n) is =
    let other = numeral_no_name bytes is.0 in
    let small : nat_lt GREATEST_NUMERAL (value_of bytes) ≡ false = le-ltb GREATEST_NUMERAL (value_of bytes) (omega (arith, is.1, is.2)) in
    rw (other, is.0, small) (ap (λ value. AToken (kinds.Number value)) is.1)
class_of_kind from bytes (kinds.Word word) is = ap (class_of from) is ∙ class_of_word from word
class_of_kind from bytes (kinds.Sign sign) is = ap (class_of from) is ∙ class_of_sign from sign

pub class_of_great : (from : ℕ) (bytes : List ℕ) → IsTooGreat bytes → class_of from bytes ≡ AnEnd (Some (faults.Number from))
class_of_great from bytes is =
    let other = numeral_no_name bytes is.0 in
    let great = lt-ltb GREATEST_NUMERAL (value_of bytes) is.1 in
    rw (other, is.0, great) refl

pub class_of_long : (from : ℕ) (bytes : List ℕ) → IsTooLong bytes → class_of from bytes ≡ AnEnd (Some (faults.Name from))
class_of_long from bytes is =
    let long = lt-ltb 255 (length bytes) is.1 in
    rw (is.0, long) refl
