-- Places, given to one net after another.
use Rattle.std.specs.Prelude.{◌≡◌, ◌≢◌, ℕ, zero, suc, ◌+◌, ◌<◌, ◌≤◌, ◌⊎◌, Bool, true, false, if◌then◌else◌, List, [], ◌∷◌, All, Contains, Some, length, map, nat_eq, replicate, set, slice_get}
use Rattle.std.proofs.Common.{arith, refl, sym, ap, subst, inl, inr, ◌∙◌, get_or-set_same, get_or-set_other}
use Rattle.std.proofs.lemmas.Bool.{cases_order}
use Rattle.std.proofs.lemmas.Bool.Decides.{nat_tests}
use Rattle.std.proofs.lemmas.List.{length-replicate, length-set, get_or-replicate}
use Rattle.std.proofs.lemmas.Option.{get_or_from_slice_get, slice_get_within}
use Rattle.gos_netlist.specs.declared.nets.NetId.{NetId}
use Rattle.gos_netlist.specs.Seen.{number_of}
use Rattle.gos_netlist.specs.Settling.{Numbers, at}
use Rattle.gos_sim.specs.inner.Places.{IsNumbering, IsPartly, none, placed}
use Rattle.gos_sim.proofs.PlaceLemmas.{all_at, all_of_at, moved_from, place_of}

-- no more nets have places than there are
placed_most : (ps : Numbers) → placed ps ≤ length ps
placed_most [] = omega arith
placed_most (p ∷ ps) = by_test (nat_eq p none) (placed_most ps)
  where
    by_test : (b : Bool) → placed ps ≤ length ps → (if b then placed ps else suc (placed ps)) ≤ suc (length ps)
    by_test true rest = omega (arith, rest)
    by_test false rest = omega (arith, rest)

-- fewer, where one has none
placed_fewer : (ps : Numbers) (n : ℕ) → n < length ps → at ps n ≡ none → placed ps < length ps
placed_fewer [] n low free = absurd (omega (arith, low))
placed_fewer (p ∷ ps) zero low free = by_test (nat_eq p none) (grind (arith, nat_tests, free))
  where
    by_test : (b : Bool) → b ≡ true → (if b then placed ps else suc (placed ps)) < suc (length ps)
    by_test true e = omega (arith, placed_most ps)
    by_test false e = absurd (cc)
placed_fewer (p ∷ ps) (suc n) low free = by_test (nat_eq p none) (placed_fewer ps n (omega (arith, low)) free)
  where
    by_test : (b : Bool) → placed ps < length ps → (if b then placed ps else suc (placed ps)) < suc (length ps)
    by_test true rest = omega (arith, rest)
    by_test false rest = omega (arith, rest)

-- one more, where that one gets one
placed_more : (ps : Numbers) (n x : ℕ) → n < length ps → at ps n ≡ none → x ≢ none → placed (set ps n x) ≡ placed ps + 1
placed_more [] n x low free other = absurd (omega (arith, low))
placed_more (p ∷ ps) zero x low free other = by_tests (nat_eq x none) (nat_eq p none) (grind (arith, nat_tests, other)) (grind (arith, nat_tests, free))
  where
    by_tests : (b c : Bool) → b ≡ false → c ≡ true → (if b then placed ps else suc (placed ps)) ≡ (if c then placed ps else suc (placed ps)) + 1
    by_tests false true e f = omega arith
    by_tests true c e f = absurd (cc)
    by_tests false false e f = absurd (cc)
placed_more (p ∷ ps) (suc n) x low free other = by_test (nat_eq p none) (placed_more ps n x (omega (arith, low)) free other)
  where
    by_test : (b : Bool) → placed (set ps n x) ≡ placed ps + 1 → (if b then placed (set ps n x) else suc (placed (set ps n x))) ≡ (if b then placed ps else suc (placed ps)) + 1
    by_test true rest = rest
    by_test false rest = omega (arith, rest)

placed_none : (count : ℕ) → placed (replicate count none) ≡ 0
placed_none zero = refl
placed_none (suc count) = by_test (nat_eq none none) (grind (arith, nat_tests)) (placed_none count)
  where
    by_test : (b : Bool) → b ≡ true → placed (replicate count none) ≡ 0 → (if b then placed (replicate count none) else suc (placed (replicate count none))) ≡ 0
    by_test true e rest = rest
    by_test false e rest = absurd (cc)

-- there is a place left for a net without one
pub place_left : (places : Numbers) (n count : ℕ) → n < length places → at places n ≡ none → IsPartly places count → count < none
place_left places n count within free partly = let fewer = placed_fewer places n within free in omega (arith, fewer, partly.counted, partly.few)

-- the number of places is one of 32 bits
pub places_few : (places : Numbers) (count : ℕ) → IsPartly places count → count ≤ none
places_few places count partly = let most = placed_most places in omega (arith, most, partly.counted, partly.few)

-- a net more has a place
pub partly_more : (places : Numbers) (n count : ℕ) → n < length places → at places n ≡ none → IsPartly places count → IsPartly (set places n count) (count + 1)
partly_more places n count within free partly =
    record {
      few = omega (arith, length-set places n count, partly.few);
      counted = let more = placed_more places n count within free (λ e. omega (arith, e, room)) in omega (arith, more, partly.counted);
      below = λ m low placed. below m (inside m low) placed (cases_order m n);
      one = λ a b a_low b_low a_placed b_placed same. one a b (inside a a_low) (inside b b_low) a_placed b_placed same (cases_order a n) (cases_order b n);
    }
  where
    room : count < none
    room = place_left places n count within free partly

    inside : (m : ℕ) → m < length (set places n count) → m < length places
    inside m low = subst (λ (k : ℕ). m < k) (length-set places n count) low

    own : at (set places n count) n ≡ count
    own = get_or-set_same places n count 0 within

    here : (m : ℕ) → m ≡ n → at (set places n count) m ≡ count
    here m same = ap (at (set places n count)) same ∙ own

    other : (m : ℕ) → m ≢ n → at (set places n count) m ≡ at places m
    other m apart = get_or-set_other places n m count 0 apart

    old_below : (m : ℕ) → m < length places → m ≢ n → at (set places n count) m ≢ none → at (set places n count) m < count
    old_below m low apart placed =
        subst (λ (k : ℕ). k < count) (sym (other m apart)) (partly.below m low (λ e. placed (other m apart ∙ e)))

    below : (m : ℕ) → m < length places → at (set places n count) m ≢ none → (m ≡ n) ⊎ ((m < n) ⊎ (n < m)) → at (set places n count) m < count + 1
    below m low placed (inl same) = let e = here m same in omega (arith, e)
    below m low placed (inr (inl less)) = let l = old_below m low (λ e. omega (arith, less, e)) placed in omega (arith, l)
    below m low placed (inr (inr more)) = let l = old_below m low (λ e. omega (arith, more, e)) placed in omega (arith, l)

    old_one : (a b : ℕ) → a < length places → b < length places → a ≢ n → b ≢ n → at (set places n count) a ≢ none → at (set places n count) b ≢ none
        → at (set places n count) a ≡ at (set places n count) b → a ≡ b
    old_one a b a_low b_low a_apart b_apart a_placed b_placed same =
        partly.one a b a_low b_low (λ e. a_placed (other a a_apart ∙ e)) (λ e. b_placed (other b b_apart ∙ e)) (sym (other a a_apart) ∙ (same ∙ other b b_apart))

    -- an old place is not the new one
    clash : (a b : ℕ) → a < length places → a ≢ n → at (set places n count) a ≢ none → b ≡ n → at (set places n count) a ≡ at (set places n count) b → a ≡ b
    clash a b a_low apart placed same equal = let l = old_below a a_low apart placed in let e = here b same in absurd (omega (arith, l, e, equal))

    one : (a b : ℕ) → a < length places → b < length places → at (set places n count) a ≢ none → at (set places n count) b ≢ none
        → at (set places n count) a ≡ at (set places n count) b → (a ≡ n) ⊎ ((a < n) ⊎ (n < a)) → (b ≡ n) ⊎ ((b < n) ⊎ (n < b)) → a ≡ b
    one a b a_low b_low a_placed b_placed same (inl a_is) (inl b_is) = a_is ∙ sym b_is
    one a b a_low b_low a_placed b_placed same (inl a_is) (inr (inl less)) = sym (clash b a b_low (λ e. omega (arith, less, e)) b_placed a_is (sym same))
    one a b a_low b_low a_placed b_placed same (inl a_is) (inr (inr more)) = sym (clash b a b_low (λ e. omega (arith, more, e)) b_placed a_is (sym same))
    one a b a_low b_low a_placed b_placed same (inr (inl less)) (inl b_is) = clash a b a_low (λ e. omega (arith, less, e)) a_placed b_is same
    one a b a_low b_low a_placed b_placed same (inr (inr more)) (inl b_is) = clash a b a_low (λ e. omega (arith, more, e)) a_placed b_is same
    one a b a_low b_low a_placed b_placed same (inr (inl l)) (inr (inl m)) = old_one a b a_low b_low (λ e. omega (arith, l, e)) (λ e. omega (arith, m, e)) a_placed b_placed same
    one a b a_low b_low a_placed b_placed same (inr (inl l)) (inr (inr m)) = old_one a b a_low b_low (λ e. omega (arith, l, e)) (λ e. omega (arith, m, e)) a_placed b_placed same
    one a b a_low b_low a_placed b_placed same (inr (inr l)) (inr (inl m)) = old_one a b a_low b_low (λ e. omega (arith, l, e)) (λ e. omega (arith, m, e)) a_placed b_placed same
    one a b a_low b_low a_placed b_placed same (inr (inr l)) (inr (inr m)) = old_one a b a_low b_low (λ e. omega (arith, l, e)) (λ e. omega (arith, m, e)) a_placed b_placed same

-- no net has a place yet
pub partly_none : (count : ℕ) → count ≤ none → IsPartly (replicate count none) 0
partly_none count small =
    record {
      few = omega (arith, length-replicate count none, small);
      counted = sym (placed_none count);
      below = λ n within placed. absurd (placed (empty n within));
      one = λ a b a_within b_within placed. absurd (placed (empty a a_within));
    }
  where
    empty : (n : ℕ) → n < length (replicate count none) → at (replicate count none) n ≡ none
    empty n within = get_or-replicate count n none 0 (subst (λ (k : ℕ). n < k) (length-replicate count none) within)

-- where each net has a place, no two have the same
pub numbering_of : (places : Numbers) (count : ℕ) → IsPartly places count → ((n : ℕ) → n < length places → at places n ≢ none) → IsNumbering places count
numbering_of places count partly placed =
    record {
      below = λ n within. partly.below n within (placed n within);
      one = λ a b a_within b_within same. partly.one a b a_within b_within (placed a a_within) (placed b b_within) same;
    }

-- nets among which each one is have all places
pub all_placed : (places : Numbers) (nets : List NetId) (n : ℕ) → Contains (map number_of nets) n → All (λ (m : NetId). at places m.0 ≢ none) nets → at places n ≢ none
all_placed places nets n has all = by_place (place_of (map number_of nets) n has)
  where
    by_place : (k : ℕ) × (slice_get (map number_of nets) k ≡ Some n) → at places n ≢ none
    by_place (k, at_k) =
        let (m, at_m, number) = moved_from number_of nets k n at_k in
        subst (λ (i : ℕ). at places i ≢ none) number (all_at (λ (m : NetId). at places m.0 ≢ none) nets k m all at_m)

-- and all places are numbers below the last one of 32 bits
pub places_below : (places : Numbers) (count : ℕ) → IsNumbering places count → count ≤ none → All (λ p. p < none) places
places_below places count numbering few = all_of_at (λ p. p < none) places (λ k p is.
    let low = numbering.below k (slice_get_within places k p is) in
    let here : at places k ≡ p = get_or_from_slice_get places k p 0 is in
    omega (arith, low, here, few))
