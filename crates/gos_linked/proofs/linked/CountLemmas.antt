-- Lists of numbers without repetition, and a permutation that such a list of the numbers below a bound is.
use Rattle.std.specs.Prelude.{◌≡◌, ◌≢◌, ◌⊎◌, ◌<◌, ◌≤◌, ◌+◌, ◌-◌, ℕ, zero, suc, Bool, true, false, List, [], ◌∷◌, ◌++◌, length, Some, slice_get, nat_eq, if◌then◌else◌}
use Rattle.std.proofs.Common.{refl, sym, ◌∙◌, ap, subst, arith, inl, inr}
use Rattle.std.proofs.lemmas.Bool.{eqb-true, eq-eqb, ne_eqb, eqb-false}

abbrev pub In : List ℕ → ℕ → Type 0
In [] k = ⊥
In (x ∷ xs) k = (x ≡ k) ⊎ In xs k

abbrev pub Distinct : List ℕ → Type 0
Distinct [] = Unit {0}
Distinct (x ∷ xs) = (In xs x → ⊥) × Distinct xs

pub in_first : (xs ys : List ℕ) (k : ℕ) → In xs k → In (xs ++ ys) k
in_first [] ys k h = absurd h
in_first (x ∷ xs) ys k (inl e) = inl e
in_first (x ∷ xs) ys k (inr h) = inr (in_first xs ys k h)

pub in_second : (xs ys : List ℕ) (k : ℕ) → In ys k → In (xs ++ ys) k
in_second [] ys k h = h
in_second (x ∷ xs) ys k h = inr (in_second xs ys k h)

pub in_either : (xs ys : List ℕ) (k : ℕ) → In (xs ++ ys) k → In xs k ⊎ In ys k
in_either [] ys k h = inr h
in_either (x ∷ xs) ys k (inl e) = inl (inl e)
in_either (x ∷ xs) ys k (inr h) = elim (in_either xs ys k h) [ inl a ↦ inl (inr a) | inr b ↦ inr b ]

pub distinct_both : (xs ys : List ℕ) → Distinct xs → Distinct ys → ((k : ℕ) → In xs k → In ys k → ⊥) → Distinct (xs ++ ys)
distinct_both [] ys first second apart = second
distinct_both (x ∷ xs) ys (fresh, first) second apart = (
  λ h. elim (in_either xs ys x h) [ inl a ↦ fresh a | inr b ↦ apart x (inl refl) b ],
  distinct_both xs ys first second (λ k a b. apart k (inr a) b),
)

-- without the first place of a number
abbrev without : ℕ → List ℕ → List ℕ
without n [] = []
without n (x ∷ xs) = if nat_eq x n then xs else x ∷ without n xs

without_length : (n : ℕ) (xs : List ℕ) → length xs ≤ suc (length (without n xs))
without_length n [] = omega arith
without_length n (x ∷ xs) = by_test (nat_eq x n) (without_length n xs)
  where
    by_test : (b : Bool) → length xs ≤ suc (length (without n xs)) → suc (length xs) ≤ suc (length (if b then xs else x ∷ without n xs))
    by_test true h = omega arith
    by_test false h = omega (arith, h)

without_in : (n : ℕ) (xs : List ℕ) (k : ℕ) → In (without n xs) k → In xs k
without_in n [] k h = h
without_in n (x ∷ xs) k h = by_test (nat_eq x n) (without_in n xs k) h
  where
    by_test : (b : Bool) → (In (without n xs) k → In xs k) → In (if b then xs else x ∷ without n xs) k → (x ≡ k) ⊎ In xs k
    by_test true rest h = inr h
    by_test false rest (inl e) = inl e
    by_test false rest (inr h) = inr (rest h)

without_distinct : (n : ℕ) (xs : List ℕ) → Distinct xs → Distinct (without n xs)
without_distinct n [] d = tt
without_distinct n (x ∷ xs) (fresh, d) = by_test (nat_eq x n) (without_distinct n xs d)
  where
    by_test : (b : Bool) → Distinct (without n xs) → Distinct (if b then xs else x ∷ without n xs)
    by_test true rest = d
    by_test false rest = (λ h. fresh (without_in n xs x h), rest)

without_other : (n : ℕ) (xs : List ℕ) → Distinct xs → (k : ℕ) → In (without n xs) k → k ≢ n
without_other n [] d k h = absurd h
without_other n (x ∷ xs) (fresh, d) k h = by_test (nat_eq x n) refl (without_other n xs d k) h
  where
    by_test : (b : Bool) → nat_eq x n ≡ b → (In (without n xs) k → k ≢ n) → In (if b then xs else x ∷ without n xs) k → k ≢ n
    by_test true test rest h e = let here : k ≡ x = e ∙ sym (eqb-true x n test) in fresh (subst (In xs) here h)
    by_test false test rest (inl e) f = eqb-false x n test (e ∙ f)
    by_test false test rest (inr h) f = rest h f

-- A list of different numbers below n has at most n.
pub short : (n : ℕ) (xs : List ℕ) → Distinct xs → ((k : ℕ) → In xs k → k < n) → length xs ≤ n
short zero [] d low = omega arith
short zero (x ∷ xs) d low = let wrong = low x (inl refl) in absurd (omega (arith, wrong))
short (suc n) xs d low =
    let rest : length (without n xs) ≤ n =
    short n (without n xs) (without_distinct n xs d)
    (λ k h. let below = low k (without_in n xs k h) in let apart = without_other n xs d k h in omega (arith, below, apart))
    in
    let size = without_length n xs in
    omega (arith, rest, size)

-- The number at a place of a list, and the place of a number: behind the list come the numbers from n on.
abbrev pub back : List ℕ → ℕ → ℕ → ℕ
back [] n j = n + j
back (x ∷ xs) n zero = x
back (x ∷ xs) n (suc j) = back xs n j

abbrev pub forth : List ℕ → ℕ → ℕ → ℕ
forth [] n k = k - n
forth (x ∷ xs) n k = if nat_eq x k then zero else suc (forth xs n k)

module _ (n : ℕ) where
  back_cases : (xs : List ℕ) (j : ℕ) → In xs (back xs n j) ⊎ (n ≤ back xs n j)
  back_cases [] j = inr (omega arith)
  back_cases (x ∷ xs) zero = inl (inl refl)
  back_cases (x ∷ xs) (suc j) = elim (back_cases xs j) [ inl h ↦ inl (inr h) | inr h ↦ inr h ]

  pub forth_back : (xs : List ℕ) → Distinct xs → ((k : ℕ) → In xs k → k < n) → (j : ℕ) → forth xs n (back xs n j) ≡ j
  forth_back [] d low j = omega arith
  forth_back (x ∷ xs) d low zero = ap (λ (b : Bool). if b then zero else suc (forth xs n x)) (eq-eqb x x refl)
  forth_back (x ∷ xs) (fresh, d) low (suc j) =
      let here : ℕ = back xs n j in
      let apart : x ≢ here = λ e.
      elim (back_cases xs j) [
        | inl h ↦ fresh (subst (In xs) (sym e) h)
        | inr h ↦ (let below = low x (inl refl) in omega (arith, below, e, h))
      ]
      in
      ap (λ (b : Bool). if b then zero else suc (forth xs n here)) (ne_eqb x here apart) ∙ ap suc (forth_back xs d (λ k h. low k (inr h)) j)

  pub back_forth : (xs : List ℕ) (k : ℕ) → In xs k ⊎ (n ≤ k) → back xs n (forth xs n k) ≡ k
  back_forth [] k (inl h) = absurd h
  back_forth [] k (inr h) = omega (arith, h)
  back_forth (x ∷ xs) k known = by_test (nat_eq x k) refl (back_forth xs k)
    where
      still : nat_eq x k ≡ false → In xs k ⊎ (n ≤ k)
      still test =
          elim known as (λ _. In xs k ⊎ (n ≤ k)) [
            | inl h ↦ elim h as (λ _. In xs k ⊎ (n ≤ k)) [ inl e ↦ absurd (eqb-false x k test e) | inr i ↦ inl i ]
            | inr high ↦ inr high
          ]

      by_test : (b : Bool) → nat_eq x k ≡ b → (In xs k ⊎ (n ≤ k) → back xs n (forth xs n k) ≡ k)
          → back (x ∷ xs) n (if b then zero else suc (forth xs n k)) ≡ k
      by_test true test rest = eqb-true x k test
      by_test false test rest = rest (still test)

  pub at_forth : (xs : List ℕ) (k : ℕ) → In xs k → slice_get xs (forth xs n k) ≡ Some k
  at_forth [] k h = absurd h
  at_forth (x ∷ xs) k h = by_test (nat_eq x k) refl (at_forth xs k)
    where
      by_test : (b : Bool) → nat_eq x k ≡ b → (In xs k → slice_get xs (forth xs n k) ≡ Some k)
          → slice_get (x ∷ xs) (if b then zero else suc (forth xs n k)) ≡ Some k
      by_test true test rest = ap Some (eqb-true x k test)
      by_test false test rest = rest (elim h as (λ _. In xs k) [ inl e ↦ absurd (eqb-false x k test e) | inr i ↦ i ])

  pub back_at : (xs : List ℕ) (j k : ℕ) → slice_get xs j ≡ Some k → (back xs n j ≡ k) × In xs k
  back_at [] j k e = absurd (cc e)
  back_at (x ∷ xs) zero k e = let here : x ≡ k = cc e in (here, inl here)
  back_at (x ∷ xs) (suc j) k e = let rest = back_at xs j k e in (rest.0, inr rest.1)

  -- of two lists
  pub back_first : (xs ys : List ℕ) (j : ℕ) → j < length xs → back (xs ++ ys) n j ≡ back xs n j
  back_first [] ys j low = absurd (omega (arith, low))
  back_first (x ∷ xs) ys zero low = refl
  back_first (x ∷ xs) ys (suc j) low = back_first xs ys j (omega (arith, low))

  pub back_second : (xs ys : List ℕ) (j : ℕ) → back (xs ++ ys) n (length xs + j) ≡ back ys n j
  back_second [] ys j = let none : 0 + j ≡ j = omega arith in ap (back ys n) none
  back_second (x ∷ xs) ys j =
      let sum : suc (length xs) + j ≡ suc (length xs + j) = omega arith in
      ap (back (x ∷ (xs ++ ys)) n) sum ∙ back_second xs ys j
