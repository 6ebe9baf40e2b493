-- Tests of all elements of a list, and of one of them.
--
-- Read first: Search.
use Rattle.std.proofs.Common.{◌≡◌, ℕ, zero, suc, ◌<◌, Bool, true, false, ◌&&◌, ◌||◌, List, [], ◌∷◌, Contains, Some, slice_get, nat_eq, map, refl, sym, ◌∙◌, ap, subst, arith, eqb-true}
use Rattle.std.proofs.lemmas.Bool.{eqb-false}
use Rattle.std.specs.List.{list_any, list_all}
use Rattle.gos_macro.specs.path_search.Search.{all_below}

pub both_true : (a b : Bool) → (a && b) ≡ true → (a ≡ true) × (b ≡ true)
both_true true b h = (refl, h)
both_true false b h = absurd (cc h)

pub later : (x : ℕ) (xs : List ℕ) (y : ℕ) → Contains xs y → Contains (x ∷ xs) y
later x xs y (k, small, is) = (suc k, omega (arith, small), is)

pub passes_each : (test : ℕ → Bool) (xs : List ℕ) (x : ℕ) → list_all test xs ≡ true → Contains xs x → test x ≡ true
passes_each test [] x all (k, small, is) = absurd (omega (arith, small))
passes_each test (y ∷ ys) x all (zero, small, is) = subst (λ (z : ℕ). test z ≡ true) is (both_true (test y) (list_all test ys) all).0
passes_each test (y ∷ ys) x all (suc k, small, is) =
    passes_each test ys x (both_true (test y) (list_all test ys) all).1 (k, omega (arith, small), is)

pub passes_here : {X : Type 0} (test : X → Bool) (xs : List X) (k : ℕ) (x : X) → list_all test xs ≡ true → slice_get xs k ≡ Some x → test x ≡ true
passes_here test [] k x all at = absurd (cc at)
passes_here test (y ∷ ys) zero x all at =
    let same : y ≡ x = cc at in ap test (sym same) ∙ (both_true (test y) (list_all test ys) all).0
passes_here test (y ∷ ys) (suc k) x all at = passes_here test ys k x (both_true (test y) (list_all test ys) all).1 at

pub one_passes : (test : ℕ → Bool) (xs : List ℕ) (x : ℕ) → Contains xs x → test x ≡ true → list_any test xs ≡ true
one_passes test [] x (k, small, is) holds = absurd (omega (arith, small))
one_passes test (y ∷ ys) x (zero, small, is) holds =
    ap (λ (b : Bool). b || list_any test ys) (subst (λ (z : ℕ). test z ≡ true) (sym is) holds)
one_passes test (y ∷ ys) x (suc k, small, is) holds = behind (test y) (one_passes test ys x (k, omega (arith, small), is) holds)
  where
    behind : (b : Bool) → list_any test ys ≡ true → (b || list_any test ys) ≡ true
    behind true any = refl
    behind false any = any

-- an element that passes a test
abbrev pub Passes : (ℕ → Bool) → List ℕ → Type 0
Passes test xs = (x : ℕ) × Contains xs x × (test x ≡ true)

pub passing_one : (test : ℕ → Bool) (xs : List ℕ) → list_any test xs ≡ true → Passes test xs
passing_one test [] any = absurd (cc any)
passing_one test (y ∷ ys) any = by_test (passing_one test ys) (test y) refl any
  where
    by_test : (list_any test ys ≡ true → Passes test ys) → (b : Bool) → test y ≡ b → (b || list_any test ys) ≡ true → Passes test (y ∷ ys)
    by_test behind true holds any = (y, (0, omega arith, refl), holds)
    by_test behind false fails any = let found = behind any in (found.0, later y ys found.0 found.1, found.2)

pub in_mapped : (f : ℕ → ℕ) (xs : List ℕ) (y : ℕ) → Contains (map f xs) y → (x : ℕ) × Contains xs x × (f x ≡ y)
in_mapped f [] y (k, small, is) = absurd (omega (arith, small))
in_mapped f (x ∷ xs) y (zero, small, is) = (x, (0, omega arith, refl), is)
in_mapped f (x ∷ xs) y (suc k, small, is) =
    let found = in_mapped f xs y (k, omega (arith, small), is) in (found.0, later x xs found.0 found.1, found.2)

pub mapped_in : (f : ℕ → ℕ) (xs : List ℕ) (x : ℕ) → Contains xs x → Contains (map f xs) (f x)
mapped_in f [] x (k, small, is) = absurd (omega (arith, small))
mapped_in f (y ∷ ys) x (zero, small, is) = (0, omega arith, ap f is)
mapped_in f (y ∷ ys) x (suc k, small, is) = later (f y) (map f ys) (f x) (mapped_in f ys x (k, omega (arith, small), is))

-- what stands in a mapped list, and what a mapped option has
pub mapped_from : {X Y : Type 0} (g : X → Y) (xs : List X) (k : ℕ) (y : Y) → slice_get (map g xs) k ≡ Some y → (x : X) × (slice_get xs k ≡ Some x) × (g x ≡ y)
mapped_from g [] k y at = absurd (cc at)
mapped_from g (x ∷ xs) zero y at = (x, refl, cc at)
mapped_from g (x ∷ xs) (suc k) y at = mapped_from g xs k y at

pub mapped_at : {X Y : Type 0} (g : X → Y) (xs : List X) (k : ℕ) (x : X) → slice_get xs k ≡ Some x → slice_get (map g xs) k ≡ Some (g x)
mapped_at g [] k x at = absurd (cc at)
mapped_at g (x ∷ xs) zero y at = ap (λ z. Some (g z)) (cc at)
mapped_at g (x ∷ xs) (suc k) y at = mapped_at g xs k y at

pub each_below : (n : ℕ) (test : ℕ → Bool) (k : ℕ) → all_below n test ≡ true → k < n → test k ≡ true
each_below zero test k all small = absurd (omega (arith, small))
each_below (suc n) test k all small = by_place (each_below n test k both.1) (nat_eq k n) refl
  where
    both : (test n ≡ true) × (all_below n test ≡ true)
    both = both_true (test n) (all_below n test) all

    before : (k ≡ n → ⊥) → k < n
    before apart = grind (arith, small, apart)

    by_place : (k < n → test k ≡ true) → (b : Bool) → nat_eq k n ≡ b → test k ≡ true
    by_place below true same = ap test (eqb-true k n same) ∙ both.0
    by_place below false other = below (before (eqb-false k n other))
