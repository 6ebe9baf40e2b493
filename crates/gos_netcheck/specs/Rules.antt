-- Rules that each element of a list has to keep, and the first element that breaks one.
use Rattle.std.specs.Prelude.{◌≡◌, ℕ, ◌<◌, List, Some, slice_get}

-- the rule is kept by each element before place n; it may speak of an element's place
abbrev pub KeptBefore : {A : Type 0} → (ℕ → A → Type 0) → List A → ℕ → Type 0
KeptBefore {A} Rule xs n = (k : ℕ) (x : A) → k < n → slice_get xs k ≡ Some x → Rule k x

-- the rule is kept by all elements
abbrev pub Kept : {A : Type 0} → (ℕ → A → Type 0) → List A → Type 0
Kept {A} Rule xs = (k : ℕ) (x : A) → slice_get xs k ≡ Some x → Rule k x

-- the element at place n is the first one that breaks the rule
abbrev pub IsFirstToBreak : {A : Type 0} → (ℕ → A → Type 0) → List A → ℕ → Type 0
IsFirstToBreak {A} Rule xs n = KeptBefore Rule xs n × (x : A) × (slice_get xs n ≡ Some x) × (Rule n x → ⊥)
