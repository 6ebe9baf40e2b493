-- What is left of a text once an item of it is passed, and that an item that stands is not missed.
use Rattle.std.proofs.Common.{◌≡◌, ℕ, ◌+◌, ◌-◌, ◌^◌, ◌<◌, ◌≤◌, false, List, [], ◌∷◌, ◌++◌, length, take, drop, refl, sym, ◌∙◌, ap, subst, arith, append_assoc, length-append, length-drop}
use Rattle.std.specs.Char.{is_ascii_digit}
use Rattle.std.specs.Fmt.{decimal}
use Rattle.std.specs.List.{slice_range}
use Rattle.std.proofs.Math.Seq.{take-append_seam}
use Rattle.std.proofs.lemmas.List.{take-append-drop, drop-drop}
use Rattle.gos_lex.specs.Items.{TextAt, Misses}
use Rattle.gos_lex.specs.ItemTexts.{IsInRange, IsNumberText, Passed, ended}
use Rattle.gos_lex.proofs.NumberTextLemmas.{number_code}

-- what was left is what was passed and what is left
pub passed_rest : (old new : TextAt) (bytes : List ℕ) → Passed old new bytes → drop old.at old.text ≡ bytes ++ drop new.at new.text
passed_rest old new bytes passed =
    let size : old.at + (new.at - old.at) ≡ new.at = omega (arith, passed.after) in
    let behind : drop (new.at - old.at) (drop old.at old.text) ≡ drop new.at new.text =
    drop-drop (new.at - old.at) old.at old.text ∙ (λ i. drop (size i) (sym passed.text i)) in
    sym (take-append-drop (new.at - old.at) (drop old.at old.text)) ∙ (λ i. passed.is i ++ behind i)

-- an item that stands is not missed
pub not_missed : (IsItem : List ℕ → Type 0) (text : List ℕ) (at place : ℕ) (bytes x : List ℕ) → Misses IsItem text at place → IsItem bytes → drop at text ≡ bytes ++ x → ⊥
not_missed IsItem text at place bytes x misses is left =
    let size : length text - at ≡ length bytes + length x = sym (length-drop at text) ∙ (ap length left ∙ length-append bytes x) in
    let inside : at ≤ length text = omega (arith, misses.stops.after, misses.stops.within) in
    let end : at + length bytes ≤ length text = omega (arith, size, inside) in
    let long : at + length bytes - at ≡ length bytes = omega arith in
    let part : slice_range text at (at + length bytes) ≡ bytes = (λ i. take (long i) (left i)) ∙ take-append_seam bytes x in
    misses.none (at + length bytes) (omega arith) end (subst IsItem (sym part) is)

-- a number and the byte that ends it
ended_parts : (n end : ℕ) (x : List ℕ) → decimal n ++ end ∷ x ≡ ended end (decimal n) ++ x
ended_parts n end x = sym (append_assoc (decimal n) (end ∷ []) x)

pub number_rest : (old new : TextAt) (low high end m n : ℕ) (x : List ℕ) → high < 2 ^ 64 → is_ascii_digit end ≡ false → IsInRange low high m → low ≤ n → n ≤ high
    → Passed old new (ended end (decimal m)) → drop old.at old.text ≡ decimal n ++ end ∷ x → (m ≡ n) × (drop new.at new.text ≡ x)
number_rest old new low high end m n x fits no_digit is low_n high_n passed left =
    number_code low high end fits no_digit m n (drop new.at new.text) x is (low_n, high_n)
    (sym (passed_rest old new (ended end (decimal m)) passed) ∙ (left ∙ ended_parts n end x))

pub number_stands : (text : List ℕ) (at place low high end n : ℕ) (x : List ℕ) → Misses (IsNumberText low high end) text at place → low ≤ n → n ≤ high → drop at text ≡ decimal n ++ end ∷ x → ⊥
number_stands text at place low high end n x misses low_n high_n left =
    not_missed (IsNumberText low high end) text at place (ended end (decimal n)) x misses (n, (low_n, high_n), refl) (left ∙ ended_parts n end x)
