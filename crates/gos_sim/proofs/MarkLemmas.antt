-- Bits of words: to set one keeps all that are set, and to take one away leaves all others.
use Rattle.std.specs.Prelude.{◌≡◌, ◌≢◌, ℕ, ◌+◌, ◌*◌, ◌-◌, ◌<◌, ◌/◌, ◌%◌, ◌^◌, ◌⊎◌, get_or, length, set, bit_and, bit_or}
use Rattle.std.proofs.Common.{arith, refl, ap, sym, inl, inr, ◌∙◌, get_or-set_same, get_or-set_other, w64}
use Rattle.std.proofs.lemmas.Bool.{cases_eq}
use Rattle.std.proofs.lemmas.Nat.Bits.{bit_at_set_same, bit_at_set_other, bit_at_clear_other}
use Rattle.std.proofs.lemmas.Option.{get_or_from_slice_get, slice_get_read}
use Rattle.gos_netlist.specs.Settling.{Numbers, at}
use Rattle.gos_sim.specs.inner.Marks.{IsUnmarked, KeepsMarks}

-- a word with a bit more, and without one
abbrev pub with_bit : ℕ → ℕ → ℕ
with_bit word bit = bit_or word (1 * 2 ^ bit % 2 ^ 64)

abbrev pub without_bit : ℕ → ℕ → ℕ
without_bit word bit = bit_and word (2 ^ 64 - 1 - 1 * 2 ^ bit % 2 ^ 64)

-- an element that is read at a place stands there
pub read_at : (xs : Numbers) (i x : ℕ) → i < length xs → x ≡ get_or xs i x → at xs i ≡ x
read_at xs i x low e = get_or_from_slice_get xs i x 0 (slice_get_read xs (length xs) i x refl low e)

-- an item whose bit is set is marked
pub set_marked : (words : Numbers) (k w : ℕ) → at words (k / 64) ≡ w → k / 64 < length words
    → IsUnmarked (set words (k / 64) (with_bit w (k % 64))) k → ⊥
set_marked words k w is low bare =
    let x = with_bit w (k % 64) in
    let within : k % 64 < 64 = omega arith in
    let here : x / 2 ^ (k % 64) % 2 ≡ 0 = sym (ap (λ (n : ℕ). n / 2 ^ (k % 64) % 2) (get_or-set_same words (k / 64) x 0 low)) ∙ bare in
    let one : x / 2 ^ (k % 64) % 2 ≡ 1 = bit_at_set_same w64 w (k % 64) within in
    let never : 1 ≡ 0 = sym one ∙ here in
    absurd (omega (arith, never))

-- and no other loses its mark
pub set_kept : (words : Numbers) (k w : ℕ) → at words (k / 64) ≡ w → k / 64 < length words
    → KeepsMarks words (set words (k / 64) (with_bit w (k % 64)))
set_kept words k w is low item bare = by_word (cases_eq (item / 64) (k / 64))
  where
    x : ℕ
    x = with_bit w (k % 64)

    here : item / 64 ≡ k / 64 → x / 2 ^ (item % 64) % 2 ≡ 0
    here e =
        sym (ap (λ (n : ℕ). n / 2 ^ (item % 64) % 2) (ap (at (set words (k / 64) x)) e ∙ get_or-set_same words (k / 64) x 0 low)) ∙ bare

    by_bit : item / 64 ≡ k / 64 → (item % 64 ≡ k % 64) ⊎ (item % 64 ≢ k % 64) → IsUnmarked words item
    by_bit e (inl same) =
        let within : k % 64 < 64 = omega arith in
        let one : x / 2 ^ (k % 64) % 2 ≡ 1 = bit_at_set_same w64 w (k % 64) within in
        let never : 1 ≡ 0 = sym one ∙ (ap (λ (i : ℕ). x / 2 ^ i % 2) (sym same) ∙ here e) in
        absurd (omega (arith, never))
    by_bit e (inr apart) =
        let within : k % 64 < 64 = omega arith in
        ap (λ (n : ℕ). n / 2 ^ (item % 64) % 2) (ap (at words) e ∙ is)
        ∙ (sym (bit_at_set_other w64 w (k % 64) within (item % 64) apart) ∙ here e)

    by_word : (item / 64 ≡ k / 64) ⊎ (item / 64 ≢ k / 64) → IsUnmarked words item
    by_word (inl e) = by_bit e (cases_eq (item % 64) (k % 64))
    by_word (inr apart) = sym (ap (λ (n : ℕ). n / 2 ^ (item % 64) % 2) (get_or-set_other words (k / 64) (item / 64) x 0 apart)) ∙ bare

-- where a bit is taken away, no item but its own loses its mark
pub clear_kept : (words : Numbers) (word bit w : ℕ) → at words word ≡ w → word < length words → bit < 64 → (item : ℕ)
    → IsUnmarked (set words word (without_bit w bit)) item → item ≢ word * 64 + bit → IsUnmarked words item
clear_kept words word bit w is low within item bare other = by_word (cases_eq (item / 64) word)
  where
    x : ℕ
    x = without_bit w bit

    here : item / 64 ≡ word → x / 2 ^ (item % 64) % 2 ≡ 0
    here e = sym (ap (λ (n : ℕ). n / 2 ^ (item % 64) % 2) (ap (at (set words word x)) e ∙ get_or-set_same words word x 0 low)) ∙ bare

    by_word : (item / 64 ≡ word) ⊎ (item / 64 ≢ word) → IsUnmarked words item
    by_word (inl e) =
        let apart : item % 64 ≢ bit = λ same. other (omega (arith, e, same)) in
        let inside : item % 64 < 64 = omega arith in
        ap (λ (n : ℕ). n / 2 ^ (item % 64) % 2) (ap (at words) e ∙ is)
        ∙ (sym (bit_at_clear_other w64 w bit within (item % 64) inside apart) ∙ here e)
    by_word (inr apart) = sym (ap (λ (n : ℕ). n / 2 ^ (item % 64) % 2) (get_or-set_other words word (item / 64) x 0 apart)) ∙ bare
