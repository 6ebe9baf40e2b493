-- Where the blanks and comments end.
use Rattle.std.proofs.Common.{◌≡◌, ◌≢◌, inl, inr, ℕ, zero, suc, ◌+◌, ◌-◌, ◌<◌, ◌≤◌, Bool, true, false, List, [], ◌∷◌, length, take, drop, get_or, refl, sym, ap, subst, arith, drop-cons, length-drop}
use Rattle.std.proofs.lemmas.List.{drop-drop}
use Rattle.std.specs.List.{slice_range}
use Rattle.gos_lex.specs.Bytes.{is_blank}
use Rattle.gos_lex.specs.Gaps.{IsGap, BeginsNoGap, IsSkipped}
use Rattle.gos_lex.proofs.PlaceLemmas.{slice_nothing}

-- whatever makes a gap from i on makes one from at on
abbrev pub GoesOn : List ℕ → ℕ → ℕ → Bool → Type 0
GoesOn text at i in_comment =
    (end : ℕ) → i ≤ end → end ≤ length text → IsGap in_comment (slice_range text i end) (drop end text)
    → IsGap false (slice_range text at end) (drop end text)

nothing : (in_comment : Bool) (rest : List ℕ) → in_comment ≡ false → IsGap in_comment [] rest
nothing in_comment rest e = let P : Bool → Type 0 = λ flag. IsGap flag [] rest in subst P (sym e) tt

nothing_left : (in_comment : Bool) → IsGap in_comment [] []
nothing_left false = tt
nothing_left true = refl

-- before a byte of no gap
pub skipped_here : (text : List ℕ) (at i : ℕ) (in_comment : Bool) → at ≤ i → i < length text → GoesOn text at i in_comment → in_comment ≡ false → is_blank (get_or text i 0) ≡ false → get_or text i 0 ≢ 35 → IsSkipped text at i
skipped_here text at i in_comment after inside on outside blank hash =
    record {
      after = after;
      within = omega arith;
      gap = on i (omega arith) (omega arith) (rw (slice_nothing text i) (nothing in_comment (drop i text) outside));
      whole = let P : List ℕ → Type 0 = BeginsNoGap in subst P (sym (drop-cons text i 0 inside)) (blank, hash);
    }

-- at the end of the text
pub skipped_all : (text : List ℕ) (at i : ℕ) (in_comment : Bool) → at ≤ length text → i ≡ length text → GoesOn text at i in_comment → IsSkipped text at (length text)
skipped_all text at i in_comment after end on =
    let none : drop (length text) text ≡ [] = drop_all text in
    let P : List ℕ → Type 0 = BeginsNoGap in
    record {
      after = after;
      within = omega arith;
      gap = on (length text) (omega arith) (omega arith) (rw (end, slice_nothing text (length text), none) (nothing_left in_comment));
      whole = subst P (sym none) tt;
    }
  where
    drop_all : (bytes : List ℕ) → drop (length bytes) bytes ≡ []
    drop_all [] = refl
    drop_all (b ∷ bytes) = drop_all bytes

-- neither a blank nor the sign of a comment, or both at once: no byte
not_both : (b : ℕ) → is_blank b ≡ true → b ≡ 35 → ⊥
not_both b blank hash = let P : ℕ → Type 0 = λ n. is_blank n ≡ true in let known = subst P hash blank in absurd (cc)

-- a gap goes on as far as it can in one way alone
gap_once : (in_comment : Bool) (rest : List ℕ) (j k : ℕ) → j ≤ length rest → k ≤ length rest → IsGap in_comment (take j rest) (drop j rest) → BeginsNoGap (drop j rest) → IsGap in_comment (take k rest) (drop k rest) → BeginsNoGap (drop k rest) → j ≡ k
gap_once in_comment [] j k p q gap whole gap' whole' = omega (arith, p, q)
gap_once in_comment (b ∷ rest) zero zero p q gap whole gap' whole' = refl
gap_once false (b ∷ rest) zero (suc k) p q gap whole (inl same) whole' = absurd (cc (whole.0, same.0))
gap_once false (b ∷ rest) zero (suc k) p q gap whole (inr same) whole' = absurd (whole.1 same.0)
gap_once true (b ∷ rest) zero (suc k) p q gap whole gap' whole' = absurd (cc gap)
gap_once false (b ∷ rest) (suc j) zero p q (inl same) whole gap' whole' = absurd (cc (whole'.0, same.0))
gap_once false (b ∷ rest) (suc j) zero p q (inr same) whole gap' whole' = absurd (whole'.1 same.0)
gap_once true (b ∷ rest) (suc j) zero p q gap whole gap' whole' = absurd (cc gap')
gap_once false (b ∷ rest) (suc j) (suc k) p q (inl one) whole (inl other) whole' = ap suc (gap_once false rest j k (omega (arith, p)) (omega (arith, q)) one.1 whole other.1 whole')
gap_once false (b ∷ rest) (suc j) (suc k) p q (inl one) whole (inr other) whole' = absurd (not_both b one.0 other.0)
gap_once false (b ∷ rest) (suc j) (suc k) p q (inr one) whole (inl other) whole' = absurd (not_both b other.0 one.0)
gap_once false (b ∷ rest) (suc j) (suc k) p q (inr one) whole (inr other) whole' = ap suc (gap_once true rest j k (omega (arith, p)) (omega (arith, q)) one.1 whole other.1 whole')
gap_once true (b ∷ rest) (suc j) (suc k) p q (inl one) whole (inl other) whole' = ap suc (gap_once true rest j k (omega (arith, p)) (omega (arith, q)) one.1 whole other.1 whole')
gap_once true (b ∷ rest) (suc j) (suc k) p q (inl one) whole (inr other) whole' = absurd (one.0 other.0)
gap_once true (b ∷ rest) (suc j) (suc k) p q (inr one) whole (inl other) whole' = absurd (other.0 one.0)
gap_once true (b ∷ rest) (suc j) (suc k) p q (inr one) whole (inr other) whole' = ap suc (gap_once false rest j k (omega (arith, p)) (omega (arith, q)) one.1 whole other.1 whole')

-- what is skipped from a place on ends at one place
pub skipped_once : (text : List ℕ) (at from other : ℕ) → IsSkipped text at from → IsSkipped text at other → from ≡ other
skipped_once text at from other one two =
    let one_left : drop (from - at) (drop at text) ≡ drop from text = there text at from one.after in
    let two_left : drop (other - at) (drop at text) ≡ drop other text = there text at other two.after in
    let same : from - at ≡ other - at =
    gap_once false (drop at text) (from - at) (other - at) (omega (arith, length-drop at text, one.within, one.after)) (omega (arith, length-drop at text, two.within, two.after))
    (rw one_left one.gap) (rw one_left one.whole) (rw two_left two.gap) (rw two_left two.whole) in
    omega (arith, same, one.after, two.after)
  where
    there : (text : List ℕ) (at from : ℕ) → at ≤ from → drop (from - at) (drop at text) ≡ drop from text
    there text at from after =
        let sum : at + (from - at) ≡ from = omega arith in
        rw (drop-drop (from - at) at text, sum) refl
