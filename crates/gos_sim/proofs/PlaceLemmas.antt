-- Elements of a list at a place.
use Rattle.std.specs.Prelude.{◌≡◌, ℕ, zero, suc, ◌<◌, Some, length, get_or, slice_get, List, [], ◌∷◌, All, Contains, map}
use Rattle.std.specs.Option.{option_map}
use Rattle.std.proofs.lemmas.Option.{get_or_from_slice_get, slice_get-get_or, slice_get-map, slice_get_within}
use Rattle.std.proofs.lemmas.List.Elements.{All-get_or}
use Rattle.std.proofs.Common.{arith, ap, refl, subst, ◌∙◌}

-- the element at a place is one
pub same_element : {A : Type 0} (xs : List A) (k : ℕ) (a b : A) → slice_get xs k ≡ Some a → slice_get xs k ≡ Some b → a ≡ b
same_element xs k a b e f = cc

-- there is one at each place
pub element_at : {A : Type 0} (xs : List A) (k : ℕ) → k < length xs → (x : A) × (slice_get xs k ≡ Some x)
element_at [] k less = absurd (omega (arith, less))
element_at (x ∷ xs) zero less = (x, refl)
element_at (x ∷ xs) (suc k) less = element_at xs k (omega (arith, less))

-- what holds of all elements holds of that one
pub all_at : {A : Type 0} (P : A → Type 0) (xs : List A) (k : ℕ) (a : A) → All P xs → slice_get xs k ≡ Some a → P a
all_at P xs k a all is = subst P (get_or_from_slice_get xs k a a is) (All-get_or P xs k a (slice_get_within xs k a is) all)

-- a member stands at a place
pub place_of : {A : Type 0} (xs : List A) (a : A) → Contains xs a → (k : ℕ) × (slice_get xs k ≡ Some a)
place_of xs a (k, below, is) = (k, slice_get-get_or xs k a below ∙ ap Some is)

-- what holds at each place of a list holds of all that is in it
pub all_of_at : {A : Type 0} (P : A → Type 0) (xs : List A) → ((k : ℕ) (x : A) → slice_get xs k ≡ Some x → P x) → All P xs
all_of_at P xs each = λ k d below. each k (get_or xs k d) (slice_get-get_or xs k d below)

-- what stands in a list stands in its image
pub moved_at : {A B : Type 0} (f : A → B) (xs : List A) (k : ℕ) (x : A) → slice_get xs k ≡ Some x → slice_get (map f xs) k ≡ Some (f x)
moved_at f xs k x is = slice_get-map f xs k ∙ ap (option_map f) is

-- and what stands in the image is of what stands in the list
pub moved_from : {A B : Type 0} (f : A → B) (xs : List A) (k : ℕ) (y : B) → slice_get (map f xs) k ≡ Some y → (x : A) × (slice_get xs k ≡ Some x) × (f x ≡ y)
moved_from f [] k y is = absurd (cc)
moved_from f (x ∷ xs) zero y is = (x, refl, cc)
moved_from f (x ∷ xs) (suc k) y is = moved_from f xs k y is
