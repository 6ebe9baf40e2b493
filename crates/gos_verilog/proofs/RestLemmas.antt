-- What is left of a text behind a word or a name, and that a word that stands is not missed.
use Rattle.std.proofs.Common.{◌≡◌, ℕ, zero, suc, ◌+◌, Bool, false, cond, List, [], ◌∷◌, ◌++◌, take, drop, Some, refl, sym, ◌∙◌, ap, arith, slice_get}
use Rattle.std.specs.List.{list_all, prefix_len}
use Rattle.std.proofs.lemmas.Bool.{and_parts}
use Rattle.std.proofs.lemmas.List.{append_cancel_left}
use Rattle.gos_lex.specs.Bytes.{continues_name}
use Rattle.gos_lex.specs.Items.{TextAt, IsJust, Misses}
use Rattle.gos_lex.specs.ItemTexts.{Passed}
use Rattle.gos_verilog.specs.inner.Stages.{Rest, AreNameBytes}
use Rattle.gos_lex.proofs.RestLemmas.{passed_rest, not_missed}

-- these bytes are passed
pub word_rest : (old new : TextAt) (bytes x : List ℕ) → Passed old new bytes → Rest old (bytes ++ x) → Rest new x
word_rest old new bytes x passed left =
    append_cancel_left bytes (drop new.at new.text) x (sym (passed_rest old new bytes passed) ∙ left)

pub word_stands : (text : List ℕ) (at place : ℕ) (bytes x : List ℕ) → Misses (IsJust bytes) text at place → drop at text ≡ bytes ++ x → ⊥
word_stands text at place bytes x misses left = not_missed (IsJust bytes) text at place bytes x misses refl left

-- the bytes of a name at the front of a text
pub front_is : (bytes : List ℕ) (end : ℕ) (x : List ℕ) → AreNameBytes bytes → continues_name end ≡ false → take (prefix_len continues_name (bytes ++ end ∷ x)) (bytes ++ end ∷ x) ≡ bytes
front_is [] end x are ends = ap (λ (b : Bool). take (cond b (1 + prefix_len continues_name x) 0) (end ∷ x)) ends
front_is (b ∷ bytes) end x are ends =
    let parts = and_parts (continues_name b) (list_all continues_name bytes) are in
    ap (λ (t : Bool). take (cond t (1 + prefix_len continues_name (bytes ++ end ∷ x)) 0) (b ∷ (bytes ++ end ∷ x))) parts.0
    ∙ (more (prefix_len continues_name (bytes ++ end ∷ x)) ∙ ap (λ rest. b ∷ rest) (front_is bytes end x parts.1 ends))
  where
    more : (n : ℕ) → take (1 + n) (b ∷ (bytes ++ end ∷ x)) ≡ b ∷ take n (bytes ++ end ∷ x)
    more n = let e : 1 + n ≡ suc n = omega arith in ap (λ (k : ℕ). take k (b ∷ (bytes ++ end ∷ x))) e

-- the byte at a place
pub byte_at : (text : List ℕ) (at c : ℕ) (x : List ℕ) → drop at text ≡ c ∷ x → slice_get text at ≡ Some c
byte_at [] zero c x left = absurd (cc left)
byte_at [] (suc at) c x left = absurd (cc left)
byte_at (b ∷ text) zero c x left = let same : b ≡ c = cc left in ap Some same
byte_at (b ∷ text) (suc at) c x left = byte_at text at c x left
