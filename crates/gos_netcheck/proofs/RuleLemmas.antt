-- A rule that all elements so far keep: one step on, at the end, and where an element breaks it.
use Rattle.std.specs.Prelude.{◌≡◌, ℕ, zero, suc, ◌+◌, ◌<◌, ◌≤◌, List, [], ◌∷◌, length, map, get_or, Some, slice_get}
use Rattle.std.proofs.Common.{arith, refl, sym, ◌∙◌, subst, below_more}
use Rattle.std.proofs.lemmas.List.{length-map}
use Rattle.std.proofs.lemmas.Option.{same_Some, slice_get_within}
use Rattle.gos_netcheck.specs.Rules.{KeptBefore, Kept, IsFirstToBreak}

-- an element of a mapped list
pub get_mapped : {A B : Type 0} (f : A → B) (xs : List A) (n : ℕ) (d : A) → n < length xs → slice_get (map f xs) n ≡ Some (f (get_or xs n d))
get_mapped f [] n d l = absurd (omega (arith, l))
get_mapped f (x ∷ xs) zero d l = refl
get_mapped f (x ∷ xs) (suc n) d l = get_mapped f xs n d (omega (arith, l))

pub kept_more : {A : Type 0} (Rule : ℕ → A → Type 0) (xs : List A) (n : ℕ) (x : A) → slice_get xs n ≡ Some x
    → KeptBefore Rule xs n → Rule n x → KeptBefore Rule xs (n + 1)
kept_more {A} Rule xs n x is so_far this k y below at =
    let P : ℕ → Type 0 = λ j. (z : A) → slice_get xs j ≡ Some z → Rule j z in
    let before : (j : ℕ) → j < n → P j = λ j l z e. so_far j z l e in
    let here : P n = λ z e. subst (Rule n) (same_Some x z (sym is ∙ e)) this in
    below_more P n before here k below y at

pub kept_all : {A : Type 0} (Rule : ℕ → A → Type 0) (xs : List A) (n : ℕ) → length xs ≤ n → KeptBefore Rule xs n → Kept Rule xs
kept_all Rule xs n l so_far k x is = so_far k x (omega (arith, l, slice_get_within xs k x is)) is

-- the same for a list that a program's list stands for, where the program looked at the element at place n
pub mapped_more : {A B : Type 0} (Rule : ℕ → B → Type 0) (f : A → B) (xs : List A) (n : ℕ) (d : A) → n < length xs
    → KeptBefore Rule (map f xs) n → Rule n (f (get_or xs n d)) → KeptBefore Rule (map f xs) (n + 1)
mapped_more Rule f xs n d l so_far this = kept_more Rule (map f xs) n (f (get_or xs n d)) (get_mapped f xs n d l) so_far this

pub mapped_breaks : {A B : Type 0} (Rule : ℕ → B → Type 0) (f : A → B) (xs : List A) (n : ℕ) (d : A) → n < length xs
    → KeptBefore Rule (map f xs) n → (Rule n (f (get_or xs n d)) → ⊥) → IsFirstToBreak Rule (map f xs) n
mapped_breaks Rule f xs n d l so_far wrong = (so_far, f (get_or xs n d), get_mapped f xs n d l, wrong)

pub mapped_all : {A B : Type 0} (Rule : ℕ → B → Type 0) (f : A → B) (xs : List A) (n : ℕ) → length xs ≤ n
    → KeptBefore Rule (map f xs) n → Kept Rule (map f xs)
mapped_all Rule f xs n l so_far = kept_all Rule (map f xs) n (omega (arith, l, length-map xs f)) so_far
