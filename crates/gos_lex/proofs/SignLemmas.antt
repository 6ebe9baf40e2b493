-- No sign has more than two bytes.
use Rattle.std.proofs.Common.{◌≡◌, ◌≤◌, ◌||◌, ℕ, Bool, true, false, IsTrue, suc, List, [], ◌∷◌, length, take, nat_eq, refl, sym, ◌∙◌, arith, true≢false}
use Rattle.std.proofs.lemmas.Bool.{eqb-true, eqb-false}
use Rattle.std.specs.List.{list_any}
use Rattle.std.specs.Str.{bytes_eq}
use Rattle.std.proofs.lemmas.Slice.Eq.{bytes_eq-Decides}
use Rattle.std.proofs.lemmas.List.{length-take-le}
use Rattle.gos_lex.specs.declared.sign.Sign.{Sign}
use Rattle.gos_lex.specs.declared.sign.Sign.TheVariants as signs
use Rattle.gos_lex.specs.Signs.{sign_text, all_signs, is_sign}

text_is_short : (s : Sign) → length (sign_text s) ≤ 2
text_is_short signs.Open = omega arith
text_is_short signs.Close = omega arith
text_is_short signs.OpenSquare = omega arith
text_is_short signs.CloseSquare = omega arith
text_is_short signs.Comma = omega arith
text_is_short signs.Dot = omega arith
text_is_short signs.Colon = omega arith
text_is_short signs.Semicolon = omega arith
text_is_short signs.Assign = omega arith
text_is_short signs.Parallel = omega arith
text_is_short signs.Or = omega arith
text_is_short signs.And = omega arith
text_is_short signs.Xor = omega arith
text_is_short signs.Plus = omega arith
text_is_short signs.Minus = omega arith
text_is_short signs.Equal = omega arith
text_is_short signs.Less = omega arith
text_is_short signs.Bang = omega arith
text_is_short signs.Star = omega arith
text_is_short signs.Arrow = omega arith

among_short : (bytes : List ℕ) (ss : List Sign) → list_any (λ s. bytes_eq bytes (sign_text s)) ss ≡ true → length bytes ≤ 2
among_short bytes [] any = absurd (cc)
among_short bytes (s ∷ ss) any =
    by_test (bytes_eq bytes (sign_text s)) (bytes_eq-Decides bytes (sign_text s)).0 (among_short bytes ss) any
  where
    by_test : (same : Bool) → (same ≡ true → bytes ≡ sign_text s)
        → (list_any (λ s. bytes_eq bytes (sign_text s)) ss ≡ true → length bytes ≤ 2)
        → (same || list_any (λ s. bytes_eq bytes (sign_text s)) ss) ≡ true → length bytes ≤ 2
    by_test true known later any = rw (known refl) (text_is_short s)
    by_test false known later any = later any

-- where so many bytes at the front of a text are a sign, they are at most two
pub sign_is_short : (text : List ℕ) (n : ℕ) → n ≤ length text → IsTrue (is_sign (take n text)) → n ≤ 2
sign_is_short text n within sign =
    let size : length (take n text) ≡ n = length-take-le n text within in
    let short : length (take n text) ≤ 2 = among_short (take n text) all_signs sign in
    omega (arith, size, short)

-- no sign at the front of the text has more than so many bytes
abbrev pub NoneIsLonger : List ℕ → ℕ → Type 0
NoneIsLonger text k = (n : ℕ) → n ≤ length text → IsTrue (is_sign (take n text)) → n ≤ k

-- nor more than one less, where so many bytes are no sign
pub none_of_one_less : (text : List ℕ) (k : ℕ) (answer : Bool) → answer ≡ false
    → (suc k ≤ length text → IsTrue (is_sign (take (suc k) text)) → IsTrue answer) → NoneIsLonger text (suc k) → NoneIsLonger text k
none_of_one_less text k answer is_no tells most n within sign = by_test (nat_eq n (suc k)) refl (most n within sign)
  where
    by_test : (same : Bool) → nat_eq n (suc k) ≡ same → n ≤ suc k → n ≤ k
    by_test false other bound = omega (arith, eqb-false n (suc k) other, bound)
    by_test true same bound =
        let e : n ≡ suc k = eqb-true n (suc k) same in
        let yes : IsTrue answer = tells (rw (sym e) within) (rw (sym e) sign) in
        absurd (true≢false (sym yes ∙ is_no))
