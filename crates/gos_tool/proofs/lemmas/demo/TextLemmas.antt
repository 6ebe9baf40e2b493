-- Texts that are made part by part.
use Rattle.std.proofs.Common.{◌≡◌, ◌∙◌, ◌+◌, ◌++◌, ℕ, suc, List, ap, sym, arith}
use Rattle.std.proofs.lemmas.List.{append_assoc}
use Rattle.gos_tool.specs.demo.DemoFiles.{level_line, level_lines}

-- each list has one part more than the one before it
pub three_parts : {A : Type 0} (o a b c : List A) {p q r : List A} → p ≡ o ++ a → q ≡ p ++ b → r ≡ q ++ c → r ≡ o ++ (a ++ (b ++ c))
three_parts {A} o a b c one two three =
    three
    ∙ (ap (λ (x : List A). x ++ c) (two ∙ ap (λ (x : List A). x ++ b) one)
    ∙ (append_assoc (o ++ a) b c ∙ append_assoc o a (b ++ c)))

pub four_parts : {A : Type 0} (o a b c d : List A) {p q r s : List A} → p ≡ o ++ a → q ≡ p ++ b → r ≡ q ++ c → s ≡ r ++ d
    → s ≡ o ++ (a ++ (b ++ (c ++ d)))
four_parts {A} o a b c d {p} one two three four =
    three_parts p b c d two three four ∙ (ap (λ (x : List A). x ++ (b ++ (c ++ d))) one ∙ append_assoc o a (b ++ (c ++ d)))

pub five_parts : {A : Type 0} (o a b c d e : List A) {p q r s t : List A} → p ≡ o ++ a → q ≡ p ++ b → r ≡ q ++ c → s ≡ r ++ d → t ≡ s ++ e
    → t ≡ o ++ (a ++ (b ++ (c ++ (d ++ e))))
five_parts {A} o a b c d e {p} one two three four five =
    four_parts p b c d e two three four five ∙ (ap (λ (x : List A). x ++ (b ++ (c ++ (d ++ e)))) one ∙ append_assoc o a (b ++ (c ++ (d ++ e))))

-- the line of one level more
pub one_level : (n : ℕ) (old : List ℕ) → (old ++ level_lines n) ++ level_line (n + 1) ≡ old ++ level_lines (n + 1)
one_level n old =
    let e : n + 1 ≡ suc n = omega arith in
    append_assoc old (level_lines n) (level_line (n + 1))
    ∙ (ap (λ (k : ℕ). old ++ (level_lines n ++ level_line k)) e ∙ sym (ap (λ (k : ℕ). old ++ level_lines k) e))
