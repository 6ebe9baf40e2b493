-- A list in which each number is its own, and one more.
use Rattle.std.specs.Prelude.{◌≡◌, ℕ, zero, suc, ◌+◌, List, [], ◌∷◌, ◌++◌, length, unwrap_or, slice_get}
use Rattle.std.proofs.Common.{refl, ap, sym, ◌∙◌, subst, arith}
use Rattle.gos_ties.specs.inner.Joined.{far_at}

-- the element at a place of a longer list, where the one behind the list is its own place
own_at : (list : List ℕ) (n d p : ℕ) → n ≡ d + length list → ((q : ℕ) → unwrap_or (slice_get list q) (d + q) ≡ d + q)
    → unwrap_or (slice_get (list ++ n ∷ []) p) (d + p) ≡ d + p
own_at [] n d zero e own = (let f : n ≡ d + 0 = omega (arith, e) in f)
own_at [] n d (suc p) e own = refl
own_at (x ∷ list) n d zero e own = own zero
own_at (x ∷ list) n d (suc p) e own =
    let next : (a : ℕ) → d + suc a ≡ suc d + a = (λ a. omega arith) in
    rw (next p)
    (own_at list n (suc d) p (omega (arith, e)) (λ q. ap (λ (b : ℕ). unwrap_or (slice_get list q) b) (sym (next q)) ∙ (own (suc q) ∙ next q)))

pub one_alone : (list : List ℕ) (n : ℕ) → length list ≡ n → ((p : ℕ) → far_at list p ≡ p) → (p : ℕ) → far_at (list ++ n ∷ []) p ≡ p
one_alone list n e own p =
    let at : (a : ℕ) → 0 + a ≡ a = (λ a. omega arith) in
    let f : n ≡ 0 + length list = omega (arith, e) in
    subst (λ (b : ℕ). unwrap_or (slice_get (list ++ n ∷ []) p) b ≡ b) (at p)
    (own_at list n 0 p f (λ q. subst (λ (b : ℕ). unwrap_or (slice_get list q) b ≡ b) (sym (at q)) (own q)))
