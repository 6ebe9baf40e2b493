-- What stands where in a list, in two lists joined end to end, and in a list that is mapped.
use Rattle.std.specs.Prelude.{slice_get, ◌≡◌, ℕ, zero, suc, ◌+◌, List, [], ◌∷◌, ◌++◌, Some, length, ◌<◌, map, Contains, Option, None}
use Rattle.std.proofs.Common.{refl, arith, ◌∙◌, ap, sym}

pub element_at : {X : Type 0} (xs : List X) (k : ℕ) → k < length xs → (x : X) × (slice_get xs k ≡ Some x)
element_at [] k low = absurd (omega (arith, low))
element_at (x ∷ xs) zero low = (x, refl)
element_at (x ∷ xs) (suc k) low = element_at xs k (omega (arith, low))

pub found_in_front : {X : Type 0} (xs ys : List X) (i : ℕ) (x : X) → slice_get xs i ≡ Some x → slice_get (xs ++ ys) i ≡ Some x
found_in_front [] ys i x e = absurd (cc e)
found_in_front (y ∷ xs) ys zero x e = e
found_in_front (y ∷ xs) ys (suc i) x e = found_in_front xs ys i x e

pub found_behind : {X : Type 0} (xs ys : List X) (i : ℕ) → slice_get (xs ++ ys) (length xs + i) ≡ slice_get ys i
found_behind [] ys i = let zeros : 0 + i ≡ i = omega arith in ap (slice_get ys) zeros
found_behind (x ∷ xs) ys i = let e : suc (length xs) + i ≡ suc (length xs + i) = omega arith in ap (slice_get (x ∷ (xs ++ ys))) e ∙ found_behind xs ys i

pub same_in_front : {X : Type 0} (xs ys : List X) (i : ℕ) → i < length xs → slice_get (xs ++ ys) i ≡ slice_get xs i
same_in_front [] ys i small = absurd (omega (arith, small))
same_in_front (x ∷ xs) ys zero small = refl
same_in_front (x ∷ xs) ys (suc i) small = same_in_front xs ys i (omega (arith, small))

pub mapped_at : {X Y : Type 0} (f : X → Y) (xs : List X) (k : ℕ) (y : Y) → slice_get (map f xs) k ≡ Some y → (x : X) × (slice_get xs k ≡ Some x) × (f x ≡ y)
mapped_at f [] k y e = absurd (cc e)
mapped_at f (x ∷ xs) zero y e = (x, refl, cc e)
mapped_at f (x ∷ xs) (suc k) y e = mapped_at f xs k y e

pub none_in_empty : {A : Type 0} (x : A) → Contains [] x → ⊥
none_in_empty x (k, less, e) = omega (arith, less)

pub first_is_in : {A : Type 0} (x : A) (xs : List A) → Contains (x ∷ xs) x
first_is_in x xs = (0, omega arith, refl)

pub rest_is_in : {A : Type 0} (x y : A) (xs : List A) → Contains xs y → Contains (x ∷ xs) y
rest_is_in x y xs (k, less, e) = (suc k, omega (arith, less), e)

pub some_is_not_none : {A : Type 0} (x : A) (o : Option A) → o ≡ Some x → o ≡ None → ⊥
some_is_not_none x o some none = let clash : Some x ≡ None = sym some ∙ none in cc clash
