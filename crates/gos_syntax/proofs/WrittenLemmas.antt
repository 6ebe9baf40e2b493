-- A text that is written token by token, with blanks between, reads as these tokens.
use Rattle.std.proofs.Common.{◌≡◌, inl, ℕ, zero, suc, ◌+◌, ◌-◌, ◌<◌, ◌≤◌, Bool, true, false, ◌&&◌, List, [], ◌∷◌, ◌++◌, length, take, drop, get_or, refl, sym, ◌∙◌, ap, subst, arith, IsTrue, None, length-drop}
use Rattle.std.specs.List.{slice_range, list_all}
use Rattle.std.proofs.lemmas.List.{take_at, length-append}
use Rattle.std.proofs.lemmas.List.Folds.{list_all-append}
use Rattle.gos_lex.specs.declared.token.Token.{Token}
use Rattle.gos_lex.specs.declared.token.TokenKind.{TokenKind}
use Rattle.gos_lex.specs.Bytes.{is_blank}
use Rattle.gos_lex.specs.Gaps.{IsGap, BeginsNoGap, IsSkipped}
use Rattle.gos_lex.specs.Lexemes.{is_lexeme, IsLongest}
use Rattle.gos_lex.specs.Tokens.{IsOfKind, IsNext, Reads, Reading, reading_as, readings_of}
use Rattle.gos_lex.proofs.PlaceLemmas.{slice_snoc, slice_nothing}

-- these bytes are a token of this kind, whole where this text stands behind them
pub record IsLexed (bytes : List ℕ) (kind : TokenKind) (rest : List ℕ) : Type 0 where
  pub some : 0 < length bytes
  pub lexeme : IsTrue (is_lexeme bytes)
  pub longest : IsLongest (length bytes) (bytes ++ rest)
  pub no_gap : BeginsNoGap (bytes ++ rest)
  pub of_kind : IsOfKind bytes kind

-- a text of these tokens, written one after another
pub data Written : List ℕ → List Reading → Type 0 where
  nothing : Written [] []
  a_blank : (b : ℕ) (text : List ℕ) (tokens : List Reading) → is_blank b ≡ true → Written text tokens → Written (b ∷ text) tokens
  a_token : (bytes rest : List ℕ) (kind : TokenKind) (tokens : List Reading) → IsLexed bytes kind rest → Written rest tokens
      → Written (bytes ++ rest) (reading_as bytes kind ∷ tokens)

pub and_true : (x y : Bool) → (x && y) ≡ true → IsTrue x × (y ≡ true)
and_true true y e = (refl, e)
and_true false y e = absurd (cc)

-- blanks are a gap
blanks_gap : (gap rest : List ℕ) → list_all is_blank gap ≡ true → IsGap false gap rest
blanks_gap [] rest blank = tt
blanks_gap (b ∷ gap) rest blank = let both = and_true (is_blank b) (list_all is_blank gap) blank in inl (both.0, blanks_gap gap rest both.1)

past_end : (k : ℕ) → drop {A = ℕ} k [] ≡ []
past_end zero = refl
past_end (suc k) = refl

drop_plus : (n k : ℕ) (text : List ℕ) → drop (n + k) text ≡ drop k (drop n text)
drop_plus zero k text = ap (λ (m : ℕ). drop m text) (plain k)
  where
    plain : (k : ℕ) → 0 + k ≡ k
    plain k = omega arith
drop_plus (suc n) k [] = past_end (suc n + k) ∙ sym (past_end k)
drop_plus (suc n) k (b ∷ text) = ap (λ (m : ℕ). drop m (b ∷ text)) (plain n k) ∙ drop_plus n k text
  where
    plain : (n k : ℕ) → suc n + k ≡ suc (n + k)
    plain n k = omega arith

-- the byte at a place where the rest begins with it
get_drop : (text : List ℕ) (n b : ℕ) (rest : List ℕ) → drop n text ≡ b ∷ rest → get_or text n 0 ≡ b
get_drop [] zero b rest e = absurd (cc)
get_drop [] (suc n) b rest e = absurd (cc)
get_drop (c ∷ text) zero b rest e = cc
get_drop (c ∷ text) (suc n) b rest e = get_drop text n b rest e

-- how much is left
left : (text : List ℕ) (n : ℕ) (rest : List ℕ) → drop n text ≡ rest → n ≤ length text → n + length rest ≡ length text
left text n rest e within =
    let size : length rest ≡ length text - n = sym (ap length e) ∙ length-drop n text in
    omega (arith, size, within)

-- the tokens of a text from a place on
pub record Read (text : List ℕ) (at : ℕ) (readings : List Reading) : Type 0 where
  pub tokens : List Token
  pub reads : Reads text at tokens None
  pub same : readings_of text tokens ≡ readings

-- after blanks, what is written is read
written_from : (text : List ℕ) (at from : ℕ) (rest : List ℕ) (readings : List Reading) → at ≤ from → from ≤ length text
    → list_all is_blank (slice_range text at from) ≡ true → drop from text ≡ rest → Written rest readings → Read text at readings
written_from text at from rest readings after within blank e nothing =
    let size = left text from [] e within in
    let ends : from ≡ length text = omega (arith, size) in
    let skipped : IsSkipped text at from =
    record {
      after = after;
      within = within;
      gap = blanks_gap (slice_range text at from) (drop from text) blank;
      whole = subst (λ (s : List ℕ). BeginsNoGap s) (sym e) tt;
    } in
    record { tokens = []; reads = subst (λ (n : ℕ). IsSkipped text at n) ends skipped; same = refl }
written_from text at from rest readings after within blank e (a_blank b more _ is written) =
    let size = left text from (b ∷ more) e within in
    let here : from < length text = omega (arith, size) in
    let byte : get_or text from 0 ≡ b = get_drop text from b more e in
    let one : slice_range text at (from + 1) ≡ slice_range text at from ++ b ∷ [] =
    slice_snoc text at from after here ∙ ap (λ (c : ℕ). slice_range text at from ++ c ∷ []) byte in
    let blanks : list_all is_blank (slice_range text at (from + 1)) ≡ true =
    ap (list_all is_blank) one ∙ list_all-append is_blank (slice_range text at from) (b ∷ []) ∙ rw (blank, is) refl in
    written_from text at (from + 1) more readings (omega (arith, after)) (omega (arith, here)) blanks
    (drop_plus from 1 text ∙ ap (drop 1) e) written
written_from text at from rest readings after within blank e (a_token bytes more kind others lexed written) =
    let to : ℕ = from + length bytes in
    let all : length (bytes ++ more) ≡ length bytes + length more = length-append bytes more in
    let size = left text from (bytes ++ more) e within in
    let inside : to ≤ length text = omega (arith, size, all) in
    let token : Token = record { kind = kind; span = record { from = from; to = to } } in
    let wide : to - from ≡ length bytes = omega arith in
    let piece : slice_range text from to ≡ bytes =
    ap (λ (n : ℕ). take n (drop from text)) wide ∙ ap (take (length bytes)) e ∙ take_at bytes more (length bytes) refl in
    let next : IsNext text at token =
    record {
      lexeme =
          record {
            skipped =
                record {
                  after = after;
                  within = within;
                  gap = blanks_gap (slice_range text at from) (drop from text) blank;
                  whole = subst (λ (s : List ℕ). BeginsNoGap s) (sym e) lexed.no_gap;
                };
            some = let some = lexed.some in omega (arith, some);
            within = inside;
            lexeme = subst (λ (s : List ℕ). IsTrue (is_lexeme s)) (sym piece) lexed.lexeme;
            longest =
                subst (λ (n : ℕ). IsLongest n (drop from text)) (sym wide)
                (subst (λ (s : List ℕ). IsLongest (length bytes) s) (sym e) lexed.longest);
          };
      kind = subst (λ (s : List ℕ). IsOfKind s kind) (sym piece) lexed.of_kind;
    } in
    let behind : drop to text ≡ more = drop_plus from (length bytes) text ∙ ap (drop (length bytes)) e ∙ drop_front bytes more in
    let rest_read = written_from text to to more others (omega arith) inside (ap (list_all is_blank) (slice_nothing text to)) behind written in
    record {
      tokens = token ∷ rest_read.tokens;
      reads = (next, rest_read.reads);
      same = λ k. reading_as (piece k) kind ∷ rest_read.same k;
    }
  where
    drop_front : (xs ys : List ℕ) → drop (length xs) (xs ++ ys) ≡ ys
    drop_front [] ys = refl
    drop_front (x ∷ xs) ys = drop_front xs ys

-- a whole text reads as what is written
pub written_reads : (text : List ℕ) (readings : List Reading) → Written text readings → Read text 0 readings
written_reads text readings written = written_from text 0 0 text readings (omega arith) (omega arith) (ap (list_all is_blank) (slice_nothing text 0)) refl written
