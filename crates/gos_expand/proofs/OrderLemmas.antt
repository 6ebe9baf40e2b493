-- Orders by number, as they are made part by part.
--
-- Read first: Orders, Choosing; Fast.
use Rattle.std.proofs.Common.{◌≡◌, ◌+◌, ◌<◌, ℕ, zero, suc, List, [], ◌∷◌, ◌++◌, Vec, map, length, slice_index_or, refl, sym, ap, subst, ◌∙◌, arith}
use Rattle.std.specs.Global.{Global}
use Rattle.std.specs.Prelude.{Option, Some, slice_get}
use Rattle.gos_plan.specs.Kinds.{Part, Share, part_contacts}
use Rattle.gos_expand.specs.Fast.{numbers_from, making_by_number}
use Rattle.gos_expand.specs.inner.Orders.{making_of, kept_order, IsOrderOf, AreOrdersOf}
use Rattle.gos_expand.specs.inner.Choosing.{PassesAcross, AllPassAcross}
use Rattle.gos_expand.proofs.AcrossLemmas.{shakes_thrice, across_by_number}

-- one number more
numbers_more : (m n : ℕ) → numbers_from m n ++ (m + n) ∷ [] ≡ numbers_from m (suc n)
numbers_more m zero = let here : m + 0 ≡ m = omega arith in ap (λ (x : ℕ). x ∷ []) here
numbers_more m (suc n) =
    let last : m + suc n ≡ suc m + n = omega arith in
    ap (λ (ns : List ℕ). m ∷ ns) (ap (λ (x : ℕ). numbers_from (suc m) n ++ x ∷ []) last ∙ numbers_more (suc m) n)

pub numbers_next : (n : ℕ) → numbers_from 0 n ++ n ∷ [] ≡ numbers_from 0 (n + 1)
numbers_next n =
    let last : n ≡ 0 + n = omega arith in
    let more : suc n ≡ n + 1 = omega arith in
    ap (λ (x : ℕ). numbers_from 0 n ++ x ∷ []) last ∙ (numbers_more 0 n ∙ ap (numbers_from 0) more)

-- how many they are, and that they are low
pub numbers_long : (m n : ℕ) → length (numbers_from m n) ≡ n
numbers_long m zero = refl
numbers_long m (suc n) = ap suc (numbers_long (suc m) n)

pub numbers_low : (m n k d : ℕ) → k < length (numbers_from m n) → slice_index_or (numbers_from m n) k d < m + n
numbers_low m zero k d low = absurd (omega (arith, low))
numbers_low m (suc n) zero d low = omega arith
numbers_low m (suc n) (suc k) d low = let rest = numbers_low (suc m) n k d (omega (arith, low)) in omega (arith, rest)

-- so they are an order of the part
numbers_order : (k : Part) → IsOrderOf (making_by_number (Some k)) k
numbers_order (Share t) =
    let n : ℕ = length (part_contacts (Share t)) in
    let all = shakes_thrice t in (
      numbers_long 0 n ∙ all,
      λ k d low. let below = numbers_low 0 n k d low in omega (arith, below, all),
    )
numbers_order k = tt

-- and of all parts
pub orders_by_number : (parts : List Part) → AreOrdersOf (λ i. making_by_number (slice_get parts i)) parts
orders_by_number parts i k there = subst (λ (o : Option Part). IsOrderOf (making_by_number o) k) (sym there) (numbers_order k)

pub across_by_numbers : (parts : List Part) → AllPassAcross (λ i. making_by_number (slice_get parts i)) parts
across_by_numbers parts i k there = subst (λ (o : Option Part). PassesAcross (making_by_number o) k) (sym there) (across_by_number k)

-- what is kept for each part is kept at its place
pub kept_by_number : (xs : List (Option (Vec ℕ Global))) (ks : List Part)
    → map (λ o. making_of (kept_order (Some o))) xs ≡ map (λ k. making_by_number (Some k)) ks
    → (i : ℕ)
    → making_of (kept_order (slice_get xs i)) ≡ making_by_number (slice_get ks i)
kept_by_number [] [] is i = refl
kept_by_number [] (k ∷ ks) is i = absurd (cc is)
kept_by_number (x ∷ xs) [] is i = absurd (cc is)
kept_by_number (x ∷ xs) (k ∷ ks) is zero = cc is
kept_by_number (x ∷ xs) (k ∷ ks) is (suc i) = kept_by_number xs ks (cc is) i
