-- The imports that stay: all of them, in their order, where no link joins any of a plan, and none where each is joined.
use Rattle.std.specs.Prelude.{◌≡◌, ℕ, zero, suc, ◌+◌, true, false, List, [], ◌∷◌, ◌++◌, map, Some, slice_get, if◌then◌else◌}
use Rattle.std.proofs.Common.{refl, sym, ◌∙◌, ap, arith}
use Rattle.gos_model.specs.Typing.{Imported}
use Rattle.gos_plan.specs.Joining.{Link, LeftImport, is_joined, left_in}

-- all imports of plan k, from number i on
abbrev pub left_list : ℕ → ℕ → List Imported → List LeftImport
left_list k i [] = []
left_list k i (x ∷ xs) = record { plan = k; number = i; import = x } ∷ left_list k (suc i) xs

pub left_all : (ls : List Link) (k : ℕ) → ((j : ℕ) → is_joined ls k j ≡ false) → (i : ℕ) (xs : List Imported) → left_in ls k i xs ≡ left_list k i xs
left_all ls k none i [] = refl
left_all ls k none i (x ∷ xs) =
    let free = none i in
    let rest = left_all ls k none (suc i) xs in rw free (ap (λ l. record { plan = k; number = i; import = x } ∷ l) rest)

pub left_joined : (ls : List Link) (k i : ℕ) (xs : List Imported) → ((j : ℕ) (z : Imported) → slice_get xs j ≡ Some z → is_joined ls k (i + j) ≡ true)
    → left_in ls k i xs ≡ []
left_joined ls k i [] all = refl
left_joined ls k i (x ∷ xs) all =
    let zeros : i + 0 ≡ i = omega arith in
    let here : is_joined ls k i ≡ true = ap (is_joined ls k) (sym zeros) ∙ all 0 x refl in
    let rest = left_joined ls k (suc i) xs (λ j z at. (let sum : suc i + j ≡ i + suc j = omega arith in ap (is_joined ls k) sum ∙ all (suc j) z at)) in
    (λ j. if here j then left_in ls k (suc i) xs else record { plan = k; number = i; import = x } ∷ left_in ls k (suc i) xs) ∙ rest

pub imports_left : (k i : ℕ) (xs : List Imported) → map (λ l. l.import) (left_list k i xs ++ []) ≡ xs
imports_left k i [] = refl
imports_left k i (x ∷ xs) = ap (λ l. x ∷ l) (imports_left k (suc i) xs)

pub left_at : (k i : ℕ) (xs : List Imported) (j : ℕ) (x : Imported) → slice_get xs j ≡ Some x
    → slice_get (left_list k i xs ++ []) j ≡ Some (record { plan = k; number = i + j; import = x })
left_at k i [] j x there = absurd (cc there)
left_at k i (y ∷ xs) zero x there =
    let e : i ≡ i + 0 = omega arith in
    let same : y ≡ x = cc there in
    λ l. Some (record { plan = k; number = e l; import = same l })
left_at k i (y ∷ xs) (suc j) x there =
    left_at k (suc i) xs j x there
    ∙ (let e : suc i + j ≡ i + suc j = omega arith in λ l. Some (record { plan = k; number = e l; import = x }))
