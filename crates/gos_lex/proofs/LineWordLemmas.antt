-- A word that is neither the first of some words nor one of the others is none of them.
use Rattle.std.proofs.Common.{◌≡◌, ◌≤◌, ◌-◌, ℕ, zero, suc, List, [], ◌∷◌, Some, false, arith, subst, length, take, drop, map, get_or, Bor}
use Rattle.std.specs.Prelude.{slice_get}
use Rattle.std.specs.Str.{bytes_eq}
use Rattle.std.proofs.lemmas.List.{take_all}
use Rattle.std.proofs.lemmas.Slice.Eq.{bytes_eq-Decides}
use Rattle.gos_lex.specs.Lines.{Word, Words}

-- no place has the word
abbrev pub IsNoWordOf : Word → Words → Type 0
IsNoWordOf word words = (k : ℕ) → slice_get words k ≡ Some word → ⊥

differs : (word first : Word) → false ≡ bytes_eq word first → word ≡ first → ⊥
differs word first differ same = grind (arith, bytes_eq-Decides, differ, same)

none_of_both : (word first : Word) (others : Words) → false ≡ bytes_eq word first → IsNoWordOf word others → IsNoWordOf word (first ∷ others)
none_of_both word first others differ none zero h = let same : word ≡ first = cc in differs word first differ same
none_of_both word first others differ none (suc k) h = none k h

-- the first word of these
abbrev pub first_of : List (Bor Word) → Word
first_of [] = []
first_of (word ∷ words) = word.now

pub none_of_all : (word : Word) (words : List (Bor Word)) → 1 ≤ length words → false ≡ bytes_eq word (first_of words) → IsNoWordOf word (map (λ word. word.now) (take (length words - 1) (drop 1 words))) → IsNoWordOf word (map (λ word. word.now) words)
none_of_all word [] some differ none = absurd (omega arith)
none_of_all word (first ∷ others) some differ none =
    let whole : take (length (first ∷ others) - 1) others ≡ others = take_all _ others (omega arith) in
    none_of_both word first.now (map (λ word. word.now) others) differ (subst (λ (ws : List (Bor Word)). IsNoWordOf word (map (λ word. word.now) ws)) whole none)

pub first_is : (word : Word) (words : List (Bor Word)) → false ≡ bytes_eq word (get_or words 0 (record { ref_ptr = (0, 0); now = [] })).now → false ≡ bytes_eq word (first_of words)
first_is word [] h = h
first_is word (first ∷ others) h = h
