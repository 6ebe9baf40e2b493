-- Words that are as many as a command has, and the number that one of them is.
use Rattle.std.proofs.Common.{◌≡◌, ◌≤◌, ◌<◌, List, [], ◌∷◌, length, get_or, String, Global, arith, sym, refl, ◌∙◌, ap, ℕ, zero, suc, ◌-◌}
use Rattle.std.specs.Prelude.{string_bytes}
use Rattle.std.specs.Fmt.{decimal}
use Rattle.gos_lex.specs.Lines.{Word}
use Rattle.gos_tool.proofs.lemmas.demo.PlainLemmas.{digits_of, same_digits}
use Rattle.gos_tool.specs.Command.{texts}

four : (words : List (String Global)) (d e f h : String Global) → 4 ≤ length words → length words < 5 → words ≡ get_or words 0 d ∷ get_or words 1 e ∷ get_or words 2 f ∷ get_or words 3 h ∷ []
four [] d e f h some few = absurd (omega (arith, some))
four (a ∷ []) d e f h some few = absurd (omega (arith, some))
four (a ∷ b ∷ []) d e f h some few = absurd (omega (arith, some))
four (a ∷ b ∷ c ∷ []) d e f h some few = absurd (omega (arith, some))
four (a ∷ b ∷ c ∷ x ∷ []) d e f h some few = refl
four (a ∷ b ∷ c ∷ x ∷ y ∷ words) d e f h some few = absurd (omega (arith, few))

-- the bytes of four words
pub four_texts : (words : List (String Global)) (a b c d : String Global) (p q r s : List ℕ) → 4 ≤ length words → length words < 5
    → a ≡ get_or words 0 a → b ≡ get_or words 1 b → c ≡ get_or words 2 c → d ≡ get_or words 3 d
    → p ≡ string_bytes a → q ≡ string_bytes b → r ≡ string_bytes c → s ≡ string_bytes d
    → texts words ≡ p ∷ q ∷ r ∷ s ∷ []
four_texts words a b c d p q r s some few ea eb ec ed ep eq er es =
    let all : words ≡ a ∷ b ∷ c ∷ d ∷ [] = four words a b c d some few ∙ (λ i. sym ea i ∷ sym eb i ∷ sym ec i ∷ sym ed i ∷ []) in
    ap texts all ∙ (λ i. sym ep i ∷ sym eq i ∷ sym er i ∷ sym es i ∷ [])

-- the number that one or two digits are, and that of levels
abbrev pub levels_in : Word → ℕ
levels_in (digit ∷ []) = digit - 48
levels_in (ten ∷ digit ∷ []) = digit - 38
levels_in word = 0

in_digits : (n : ℕ) → n ≤ 12 → levels_in (digits_of n) ≡ n
in_digits zero few = refl
in_digits (suc zero) few = refl
in_digits (suc (suc zero)) few = refl
in_digits (suc (suc (suc zero))) few = refl
in_digits (suc (suc (suc (suc zero)))) few = refl
in_digits (suc (suc (suc (suc (suc zero))))) few = refl
in_digits (suc (suc (suc (suc (suc (suc zero)))))) few = refl
in_digits (suc (suc (suc (suc (suc (suc (suc zero))))))) few = refl
in_digits (suc (suc (suc (suc (suc (suc (suc (suc zero)))))))) few = refl
in_digits (suc (suc (suc (suc (suc (suc (suc (suc (suc zero))))))))) few = refl
in_digits (suc (suc (suc (suc (suc (suc (suc (suc (suc (suc zero)))))))))) few = refl
in_digits (suc (suc (suc (suc (suc (suc (suc (suc (suc (suc (suc zero))))))))))) few = refl
in_digits (suc (suc (suc (suc (suc (suc (suc (suc (suc (suc (suc (suc zero)))))))))))) few = refl
in_digits (suc (suc (suc (suc (suc (suc (suc (suc (suc (suc (suc (suc (suc n))))))))))))) few = absurd (omega (arith, few))

pub levels_back : (n : ℕ) → n ≤ 12 → levels_in (decimal n) ≡ n
levels_back n few = ap levels_in (same_digits n few) ∙ in_digits n few
