-- Lists of different nodes: one whose nodes' places are kept is no longer than the list of the places.
use Rattle.std.specs.Prelude.{◌≡◌, ◌≢◌, ◌⊎◌, ◌<◌, ◌≤◌, ℕ, zero, suc, Bool, true, false, List, [], ◌∷◌, ◌++◌, length, set, nat_eq, if◌then◌else◌}
use Rattle.std.proofs.Common.{refl, sym, ◌∙◌, arith, inl, inr, get_or-set_other, get_or-set_same}
use Rattle.std.proofs.lemmas.Bool.Decides.{nat_tests}
use Rattle.std.proofs.lemmas.Bool.{cases_eq}
use Rattle.std.proofs.lemmas.List.{length-set, length_push, get_or_push, get_or_append_left}
use Rattle.gos_order.specs.inner.NodeLists.{at, IsIn}

abbrev Among : List ℕ → ℕ → Type 0
Among [] k = ⊥
Among (x ∷ xs) k = (x ≡ k) ⊎ Among xs k

among_at : (xs : List ℕ) (place k : ℕ) → place < length xs → at xs place ≡ k → Among xs k
among_at [] place k within is = absurd (omega (arith, within))
among_at (x ∷ xs) zero k within is = inl is
among_at (x ∷ xs) (suc place) k within is = inr (among_at xs place k (omega (arith, within)) is)

-- without the first place of a number
abbrev without : ℕ → List ℕ → List ℕ
without n [] = []
without n (x ∷ xs) = if nat_eq x n then xs else x ∷ without n xs

without_shorter : (n : ℕ) (xs : List ℕ) → Among xs n → suc (length (without n xs)) ≤ length xs
without_shorter n [] h = absurd h
without_shorter n (x ∷ xs) h = by_test (nat_eq x n) (λ e. grind (arith, nat_tests, e)) h (without_shorter n xs)
  where
    by_test : (b : Bool) → (x ≡ n → b ≡ true) → (x ≡ n) ⊎ Among xs n → (Among xs n → suc (length (without n xs)) ≤ length xs)
        → suc (length (if b then xs else x ∷ without n xs)) ≤ suc (length xs)
    by_test true same h rest = omega arith
    by_test false same (inl e) rest = let f : false ≡ true = same e in cc
    by_test false same (inr h) rest = omega (arith, rest h)

without_others : (n : ℕ) (xs : List ℕ) (k : ℕ) → Among xs k → k ≢ n → Among (without n xs) k
without_others n [] k h other = absurd h
without_others n (x ∷ xs) k h other = by_test (nat_eq x n) (λ e. grind (arith, nat_tests, e)) h (λ g. without_others n xs k g other)
  where
    by_test : (b : Bool) → (b ≡ true → x ≡ n) → (x ≡ k) ⊎ Among xs k → (Among xs k → Among (without n xs) k)
        → Among (if b then xs else x ∷ without n xs) k
    by_test true same (inl e) rest = absurd (other (sym e ∙ same refl))
    by_test true same (inr h) rest = h
    by_test false same (inl e) rest = inl e
    by_test false same (inr h) rest = inr (rest h)

-- a list that has each number below n has n numbers at least
many : (n : ℕ) (xs : List ℕ) → ((k : ℕ) → k < n → Among xs k) → n ≤ length xs
many zero xs each = omega arith
many (suc n) xs each =
    let last : Among xs n = each n (omega arith) in
    let others : n ≤ length (without n xs) = many n (without n xs) (λ k h. without_others n xs k (each k (omega (arith, h))) (omega (arith, h))) in
    omega (arith, without_shorter n xs last, others)

pub few : (items places : List ℕ) → ((place : ℕ) → place < length items → at places (at items place) ≡ place)
    → ((place : ℕ) → place < length items → at items place < length places) → length items ≤ length places
few items places placed below = many (length items) places (λ k h. among_at places (at items k) k (below k h) (placed k h))

-- what holds with one node more
module _ (items places : List ℕ) (node : ℕ) (placed : (place : ℕ) → place < length items → at places (at items place) ≡ place)
    (below : (place : ℕ) → place < length items → at items place < length places) (within : node < length places) (absent : IsIn items node → ⊥) where
  pub put_placed : (place : ℕ) → place < length (items ++ node ∷ []) → at (set places node (length items)) (at (items ++ node ∷ []) place) ≡ place
  put_placed place h = elim (cases_eq place (length items)) [
    | inl e ↦ let last : at (items ++ node ∷ []) place ≡ node = get_or_push items node 0 place (sym e) in
        rw last (get_or-set_same places node (length items) 0 within ∙ sym e)
    | inr ne ↦ let before : place < length items = omega (arith, h, ne, length_push items node) in
        let old : at (items ++ node ∷ []) place ≡ at items place = get_or_append_left items (node ∷ []) 0 place before in
        rw old (get_or-set_other places node (at items place) (length items) 0 (λ e. absent (place, before, e)) ∙ placed place before)
  ]

  pub put_below : (place : ℕ) → place < length (items ++ node ∷ []) → at (items ++ node ∷ []) place < length (set places node (length items))
  put_below place h = elim (cases_eq place (length items)) [
    | inl e ↦ let last : at (items ++ node ∷ []) place ≡ node = get_or_push items node 0 place (sym e) in
        rw (last, length-set) within
    | inr ne ↦ let before : place < length items = omega (arith, h, ne, length_push items node) in
        let old : at (items ++ node ∷ []) place ≡ at items place = get_or_append_left items (node ∷ []) 0 place before in
        rw (old, length-set) (below place before)
  ]

  pub put_room : length items < length places
  put_room =
      let more : length (items ++ node ∷ []) ≤ length (set places node (length items)) =
      few (items ++ node ∷ []) (set places node (length items)) put_placed put_below in
      omega (arith, more, length_push items node, length-set places node (length items))
