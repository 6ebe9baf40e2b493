-- Which bytes are a token, whole where some text stands behind them: words, names, numerals and signs.
use Rattle.std.proofs.Common.{◌≡◌, ◌≢◌, ℕ, zero, suc, ◌+◌, ◌-◌, ◌*◌, ◌/◌, ◌%◌, ◌<◌, ◌≤◌, ◌^◌, Bool, true, false, nat_eq, List, [], ◌∷◌, ◌++◌, length, take, refl, subst, arith, IsTrue}
use Rattle.std.specs.List.{list_all, prefix_len}
use Rattle.std.specs.Char.{is_ascii_digit}
use Rattle.std.specs.Fmt.{decimal}
use Rattle.std.proofs.lemmas.Fmt.{decimal_by_steps}
use Rattle.std.proofs.lemmas.List.{take_at}
use Rattle.std.proofs.lemmas.List.Folds.{list_all-append}
use Rattle.gos_lex.specs.declared.word.Word.{Word}
use Rattle.gos_lex.specs.declared.word.Word.TheVariants as words
use Rattle.gos_lex.specs.declared.sign.Sign.{Sign}
use Rattle.gos_lex.specs.declared.sign.Sign.TheVariants as signs
use Rattle.gos_lex.specs.declared.token.TokenKind.{TokenKind}
use Rattle.gos_lex.specs.declared.token.TokenKind.TheVariants as kinds
use Rattle.gos_lex.specs.declared.numeral.TheConstants.{GREATEST_NUMERAL}
use Rattle.gos_lex.specs.Bytes.{is_blank, begins_name, continues_name}
use Rattle.gos_lex.specs.Names.{spells_name, IsName}
use Rattle.gos_lex.specs.Numerals.{is_numeral, value_after, value_of}
use Rattle.gos_lex.specs.Words.{word_text}
use Rattle.gos_lex.specs.Signs.{sign_text}
use Rattle.gos_lex.specs.Gaps.{BeginsNoGap}
use Rattle.gos_lex.specs.Lexemes.{is_lexeme, IsLongest}
use Rattle.gos_lex.specs.Tokens.{IsOfKind}
use Rattle.gos_lex.proofs.RunLemmas.{TakesLongest, name_run, digit_run}
use Rattle.gos_syntax.proofs.WrittenLemmas.{IsLexed, and_true}

-- a text is empty, or begins with a byte that fails a test
abbrev pub StopsAt : (ℕ → Bool) → List ℕ → Type 0
StopsAt test [] = Unit {0}
StopsAt test (b ∷ rest) = test b ≡ false

-- a run of bytes that pass is no longer where what follows stops it
run_whole : (test : ℕ → Bool) (bytes rest : List ℕ) → list_all test bytes ≡ true → StopsAt test rest → length bytes ≡ prefix_len test (bytes ++ rest)
run_whole test [] [] all stops = refl
run_whole test [] (b ∷ rest) all stops = rw stops refl
run_whole test (b ∷ bytes) rest all stops =
    let both = and_true (test b) (list_all test bytes) all in
    let more = run_whole test bytes rest both.1 stops in
    let first : test b ≡ true = both.0 in
    rw first (omega (arith, more))

-- the longest lexeme at the front of a text is a token
taken : (bytes rest : List ℕ) (kind : TokenKind) → 0 < length bytes → TakesLongest is_lexeme (length bytes) (bytes ++ rest) → BeginsNoGap (bytes ++ rest)
    → IsOfKind bytes kind → IsLexed bytes kind rest
taken bytes rest kind some takes no_gap of_kind =
    record {
      some = some;
      lexeme = subst (λ (s : List ℕ). IsTrue (is_lexeme s)) (take_at bytes rest (length bytes) refl) (takes.1 some);
      longest = takes.2;
      no_gap = no_gap;
      of_kind = of_kind;
    }

name_begins : (b : ℕ) → begins_name b ≡ true → (is_blank b ≡ false) × (b ≢ 35)
name_begins b is = (no_blank, no_comment)
  where
    no_blank : is_blank b ≡ false
    no_blank = grind arith

    no_comment : b ≢ 35
    no_comment = grind arith

digit_begins : (b : ℕ) → is_ascii_digit b ≡ true → (is_blank b ≡ false) × (b ≢ 35)
digit_begins b is = (no_blank, no_comment)
  where
    no_blank : is_blank b ≡ false
    no_blank = grind arith

    no_comment : b ≢ 35
    no_comment = grind arith

-- what is spelled as a name
pub spelled_lexed : (bytes rest : List ℕ) (kind : TokenKind) → IsTrue (spells_name bytes) → StopsAt continues_name rest → IsOfKind bytes kind → IsLexed bytes kind rest
spelled_lexed [] rest kind spelled stops of_kind = absurd (cc)
spelled_lexed (b ∷ bytes) rest kind spelled stops of_kind =
    let both = and_true (begins_name b) (list_all continues_name bytes) spelled in
    let first : begins_name b ≡ true = both.0 in
    let all : list_all continues_name (b ∷ bytes) ≡ true = rw (first, both.1) refl in
    taken (b ∷ bytes) rest kind (omega arith)
    (name_run ((b ∷ bytes) ++ rest) (length (b ∷ bytes)) (omega arith) first (run_whole continues_name (b ∷ bytes) rest all stops))
    (name_begins b first) of_kind

-- digits
pub digits_lexed : (bytes rest : List ℕ) (kind : TokenKind) → IsTrue (is_numeral bytes) → StopsAt is_ascii_digit rest → IsOfKind bytes kind → IsLexed bytes kind rest
digits_lexed [] rest kind numeral stops of_kind = absurd (cc)
digits_lexed (b ∷ bytes) rest kind numeral stops of_kind =
    let both = and_true (is_ascii_digit b) (list_all is_ascii_digit bytes) numeral in
    let first : is_ascii_digit b ≡ true = both.0 in
    taken (b ∷ bytes) rest kind (omega arith)
    (digit_run ((b ∷ bytes) ++ rest) (length (b ∷ bytes)) (omega arith) first (run_whole is_ascii_digit (b ∷ bytes) rest numeral stops))
    (digit_begins b first) of_kind

word_spelled : (word : Word) → IsTrue (spells_name (word_text word))
word_spelled words.Import = refl
word_spelled words.Export = refl
word_spelled words.Fun = refl
word_spelled words.Fst = refl
word_spelled words.Snd = refl
word_spelled words.If = refl
word_spelled words.Then = refl
word_spelled words.Else = refl
word_spelled words.While = refl
word_spelled words.Do = refl
word_spelled words.New = refl
word_spelled words.In = refl
word_spelled words.Skip = refl
word_spelled words.Not = refl
word_spelled words.Com = refl
word_spelled words.Exp = refl
word_spelled words.Var = refl

pub word_lexed : (word : Word) (rest : List ℕ) → StopsAt continues_name rest → IsLexed (word_text word) (kinds.Word word) rest
word_lexed word rest stops = spelled_lexed (word_text word) rest (kinds.Word word) (word_spelled word) stops refl

pub name_lexed : (name rest : List ℕ) → IsName name → StopsAt continues_name rest → IsLexed name kinds.Name rest
name_lexed name rest is stops = spelled_lexed name rest kinds.Name is.spelled stops is

-- the digits of a number are a numeral of its value
last_value : (n b : ℕ) (bytes : List ℕ) → value_after n (bytes ++ b ∷ []) ≡ 10 * value_after n bytes + (b - 48)
last_value n b [] = refl
last_value n b (c ∷ bytes) = last_value (10 * n + (c - 48)) b bytes

last_numeral : (b : ℕ) (bytes : List ℕ) → is_numeral bytes ≡ true → is_ascii_digit b ≡ true → is_numeral (bytes ++ b ∷ []) ≡ true
last_numeral b [] numeral digit = absurd (cc)
last_numeral b (c ∷ bytes) numeral digit =
    let both = and_true (is_ascii_digit c) (list_all is_ascii_digit bytes) numeral in
    let first : is_ascii_digit c ≡ true = both.0 in
    rw (first, list_all-append is_ascii_digit bytes (b ∷ []), both.1, digit) refl

abbrev Writes : ℕ → List ℕ → Type 0
Writes n bytes = (is_numeral bytes ≡ true) × (value_of bytes ≡ n)

decimal_writes : (n : ℕ) → n < 2 ^ 64 → Writes n (decimal n)
decimal_writes = decimal_by_steps Writes one more
  where
    digit : (d : ℕ) → d < 10 → is_ascii_digit (48 + d) ≡ true
    digit d small = grind arith

    one : (n : ℕ) → n < 10 → Writes n ((48 + n) ∷ [])
    one n small =
        let is : is_ascii_digit (48 + n) ≡ true = digit n small in
        (rw is refl, omega arith)

    more : (n : ℕ) (bytes : List ℕ) → 10 ≤ n → Writes (n / 10) bytes → Writes n (bytes ++ (48 + n % 10) ∷ [])
    more n bytes large writes = (
      last_numeral (48 + n % 10) bytes writes.0 (digit (n % 10) (omega arith)),
      let last = last_value 0 (48 + n % 10) bytes in
          let front : value_of bytes ≡ n / 10 = writes.1 in
          omega (arith, last, front),
    )

pub number_lexed : (n : ℕ) (rest : List ℕ) → n ≤ GREATEST_NUMERAL → StopsAt is_ascii_digit rest → IsLexed (decimal n) (kinds.Number n) rest
number_lexed n rest small stops =
    let writes = decimal_writes n (omega (arith, small)) in
    digits_lexed (decimal n) rest (kinds.Number n) writes.0 stops (writes.0, writes.1, small)

-- what may not follow a sign that a longer one begins with: 61 is `=`, 124 is `|`, 62 is `>`
abbrev pub EndsSign : Sign → List ℕ → Type 0
EndsSign signs.Colon rest = StopsAt (λ b. nat_eq b 61) rest
EndsSign signs.Or rest = StopsAt (λ b. nat_eq b 124) rest
EndsSign signs.Minus rest = StopsAt (λ b. nat_eq b 62) rest
EndsSign sign rest = Unit {0}

one_byte : (c : ℕ) (Ends : List ℕ → Type 0) → ((b : ℕ) (rest more : List ℕ) → Ends (b ∷ rest) → is_lexeme (c ∷ b ∷ more) ≡ false)
    → (rest : List ℕ) → Ends rest → IsLongest 1 (c ∷ rest)
one_byte c Ends none rest ends zero within lexeme = omega arith
one_byte c Ends none rest ends (suc zero) within lexeme = omega arith
one_byte c Ends none [] ends (suc (suc n)) within lexeme = absurd (omega (arith, within))
one_byte c Ends none (b ∷ rest) ends (suc (suc n)) within lexeme =
    let no_lexeme = none b rest (take n rest) ends in
    absurd (cc)

two_bytes : (c d : ℕ) → ((b : ℕ) (more : List ℕ) → is_lexeme (c ∷ d ∷ b ∷ more) ≡ false) → (rest : List ℕ) → IsLongest 2 (c ∷ d ∷ rest)
two_bytes c d none rest zero within lexeme = omega arith
two_bytes c d none rest (suc zero) within lexeme = omega arith
two_bytes c d none rest (suc (suc zero)) within lexeme = omega arith
two_bytes c d none [] (suc (suc (suc n))) within lexeme = absurd (omega (arith, within))
two_bytes c d none (b ∷ rest) (suc (suc (suc n))) within lexeme =
    let no_lexeme = none b (take n rest) in
    absurd (cc)

any : List ℕ → Type 0
any rest = Unit {0}

-- a byte with which no longer lexeme begins
alone : (c : ℕ) (kind : TokenKind) (rest : List ℕ) → IsTrue (is_lexeme (c ∷ [])) → ((b : ℕ) (more : List ℕ) → is_lexeme (c ∷ b ∷ more) ≡ false)
    → BeginsNoGap (c ∷ rest) → IsOfKind (c ∷ []) kind → IsLexed (c ∷ []) kind rest
unfolding any
alone c kind rest lexeme none no_gap of_kind =
    record { some = omega arith; lexeme = lexeme; longest = one_byte c any (λ b tail more _. none b more) rest tt; no_gap = no_gap; of_kind = of_kind }

pub sign_lexed : (sign : Sign) (rest : List ℕ) → EndsSign sign rest → IsLexed (sign_text sign) (kinds.Sign sign) rest
sign_lexed signs.Open rest ends = alone 40 (kinds.Sign signs.Open) rest refl (λ b more. refl) (refl, λ e. omega (arith, e)) refl
sign_lexed signs.Close rest ends = alone 41 (kinds.Sign signs.Close) rest refl (λ b more. refl) (refl, λ e. omega (arith, e)) refl
sign_lexed signs.OpenSquare rest ends = alone 91 (kinds.Sign signs.OpenSquare) rest refl (λ b more. refl) (refl, λ e. omega (arith, e)) refl
sign_lexed signs.CloseSquare rest ends = alone 93 (kinds.Sign signs.CloseSquare) rest refl (λ b more. refl) (refl, λ e. omega (arith, e)) refl
sign_lexed signs.Comma rest ends = alone 44 (kinds.Sign signs.Comma) rest refl (λ b more. refl) (refl, λ e. omega (arith, e)) refl
sign_lexed signs.Dot rest ends = alone 46 (kinds.Sign signs.Dot) rest refl (λ b more. refl) (refl, λ e. omega (arith, e)) refl
sign_lexed signs.Colon rest ends =
    record { some = omega arith; lexeme = refl; longest = one_byte 58 (EndsSign signs.Colon) (λ b tail more no_more. rw no_more refl) rest ends; no_gap = (refl, λ e. omega (arith, e)); of_kind = refl }
sign_lexed signs.Semicolon rest ends = alone 59 (kinds.Sign signs.Semicolon) rest refl (λ b more. refl) (refl, λ e. omega (arith, e)) refl
sign_lexed signs.Assign rest ends =
    record { some = omega arith; lexeme = refl; longest = two_bytes 58 61 (λ b more. refl) rest; no_gap = (refl, λ e. omega (arith, e)); of_kind = refl }
sign_lexed signs.Parallel rest ends =
    record { some = omega arith; lexeme = refl; longest = two_bytes 124 124 (λ b more. refl) rest; no_gap = (refl, λ e. omega (arith, e)); of_kind = refl }
sign_lexed signs.Or rest ends =
    record { some = omega arith; lexeme = refl; longest = one_byte 124 (EndsSign signs.Or) (λ b tail more no_more. rw no_more refl) rest ends; no_gap = (refl, λ e. omega (arith, e)); of_kind = refl }
sign_lexed signs.And rest ends = alone 38 (kinds.Sign signs.And) rest refl (λ b more. refl) (refl, λ e. omega (arith, e)) refl
sign_lexed signs.Xor rest ends = alone 94 (kinds.Sign signs.Xor) rest refl (λ b more. refl) (refl, λ e. omega (arith, e)) refl
sign_lexed signs.Plus rest ends = alone 43 (kinds.Sign signs.Plus) rest refl (λ b more. refl) (refl, λ e. omega (arith, e)) refl
sign_lexed signs.Minus rest ends =
    record { some = omega arith; lexeme = refl; longest = one_byte 45 (EndsSign signs.Minus) (λ b tail more no_more. rw no_more refl) rest ends; no_gap = (refl, λ e. omega (arith, e)); of_kind = refl }
sign_lexed signs.Equal rest ends = alone 61 (kinds.Sign signs.Equal) rest refl (λ b more. refl) (refl, λ e. omega (arith, e)) refl
sign_lexed signs.Less rest ends = alone 60 (kinds.Sign signs.Less) rest refl (λ b more. refl) (refl, λ e. omega (arith, e)) refl
sign_lexed signs.Bang rest ends = alone 33 (kinds.Sign signs.Bang) rest refl (λ b more. refl) (refl, λ e. omega (arith, e)) refl
sign_lexed signs.Star rest ends = alone 42 (kinds.Sign signs.Star) rest refl (λ b more. refl) (refl, λ e. omega (arith, e)) refl
sign_lexed signs.Arrow rest ends =
    record { some = omega arith; lexeme = refl; longest = two_bytes 45 62 (λ b more. refl) rest; no_gap = (refl, λ e. omega (arith, e)); of_kind = refl }

-- before a space every sign ends
pub space_ends : (sign : Sign) (rest : List ℕ) → EndsSign sign (32 ∷ rest)
space_ends signs.Colon rest = refl
space_ends signs.Or rest = refl
space_ends signs.Minus rest = refl
space_ends signs.Open rest = tt
space_ends signs.Close rest = tt
space_ends signs.OpenSquare rest = tt
space_ends signs.CloseSquare rest = tt
space_ends signs.Comma rest = tt
space_ends signs.Dot rest = tt
space_ends signs.Semicolon rest = tt
space_ends signs.Assign rest = tt
space_ends signs.Parallel rest = tt
space_ends signs.And rest = tt
space_ends signs.Xor rest = tt
space_ends signs.Plus rest = tt
space_ends signs.Equal rest = tt
space_ends signs.Less rest = tt
space_ends signs.Bang rest = tt
space_ends signs.Star rest = tt
space_ends signs.Arrow rest = tt

-- before a numeral a colon ends
digits_end : (bytes rest : List ℕ) → IsTrue (is_numeral bytes) → StopsAt (λ b. nat_eq b 61) (bytes ++ rest)
digits_end [] rest numeral = absurd (cc)
digits_end (b ∷ bytes) rest numeral =
    let both = and_true (is_ascii_digit b) (list_all is_ascii_digit bytes) numeral in
    no_equal b both.0
  where
    no_equal : (b : ℕ) → is_ascii_digit b ≡ true → nat_eq b 61 ≡ false
    no_equal b digit = grind arith

pub number_ends : (n : ℕ) (rest : List ℕ) → n ≤ GREATEST_NUMERAL → EndsSign signs.Colon (decimal n ++ rest)
number_ends n rest small = digits_end (decimal n) rest (decimal_writes n (omega (arith, small))).0
