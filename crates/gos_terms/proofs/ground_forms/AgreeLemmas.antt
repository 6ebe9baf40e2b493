-- A term means the same where the numbers for which something stands do.
use Rattle.std.specs.Prelude.{◌≡◌, ℕ, Bool, true, false, List, [], ◌∷◌, ◌++◌, ◌||◌, Contains, nat_eq, if◌then◌else◌}
use Rattle.std.proofs.Common.{refl, ap}
use Rattle.gos_model.specs.Terms as terms
use Rattle.gos_check.specs.declared.linear.Split.{Split}
use Rattle.gos_check.specs.Nodes.{Numbered, Closed, Use, Under, One, Two, If, Meaning, shifted, below, inside_one, inside, meaning, binder_term, one_term, two_term}
use Rattle.gos_terms.specs.stages.Inside.{AreSplit, numbers_inside}
use Rattle.gos_terms.specs.numbers.Kept.{InScope}
use Rattle.gos_terms.proofs.regions.NamedLemmas.{in_list, before}

-- two meanings are one at these numbers
abbrev pub AgreeAt : List ℕ → Meaning → Meaning → Type 0
AgreeAt ns e f = (k : ℕ) → Contains ns k → e k ≡ f k

pub below_agrees : (n : ℕ) (ns : List ℕ) (e f : Meaning) → AgreeAt ns e f → AgreeAt (ns ++ n ∷ []) (below n e) (below n f)
below_agrees n ns e f same k has = by_test (nat_eq k n) refl
  where
    by_test : (b : Bool) → nat_eq k n ≡ b → (if b then terms.Bound 0 else shifted (e k)) ≡ (if b then terms.Bound 0 else shifted (f k))
    by_test true is = refl
    by_test false is = ap shifted (same k (before ns n k is has))

one_agrees : (s : Split) (ns : List ℕ) (e f : Meaning)
    → Contains ns s.of → AgreeAt ns e f → AgreeAt (s.left ∷ s.right ∷ ns) (inside_one s e) (inside_one s f)
one_agrees s ns e f of same k has = by_side (nat_eq k s.left) (nat_eq k s.right) refl refl
  where
    by_side : (a b : Bool) → nat_eq k s.left ≡ a → nat_eq k s.right ≡ b → (if a || b then e s.of else e k) ≡ (if a || b then f s.of else f k)
    by_side true b is_left is_right = same s.of of
    by_side false true is_left is_right = same s.of of
    by_side false false is_left is_right = same k (in_list ns k s.right is_right (in_list (s.right ∷ ns) k s.left is_left has))

inside_agrees : (ss : List Split) (ns : List ℕ) (e f : Meaning)
    → AreSplit ss ns → AgreeAt ns e f → AgreeAt (numbers_inside ss ns) (inside ss e) (inside ss f)
inside_agrees [] ns e f split same = same
inside_agrees (s ∷ ss) ns e f (of, split) same =
    inside_agrees ss (s.left ∷ s.right ∷ ns) (inside_one s e) (inside_one s f) split (one_agrees s ns e f of same)

pub meaning_agrees : (m : Numbered) (ns : List ℕ) (e f : Meaning) → InScope ns m → AgreeAt ns e f → meaning e m ≡ meaning f m
meaning_agrees (Closed t ss c) ns e f scope same = refl
meaning_agrees (Use t ss n) ns e f scope same = same n scope
meaning_agrees (Under t ss b n m) ns e f (split, scope) same =
    ap (binder_term b t)
    (meaning_agrees m (numbers_inside ss ns ++ n ∷ []) (below n (inside ss e)) (below n (inside ss f)) scope
    (below_agrees n (numbers_inside ss ns) (inside ss e) (inside ss f) (inside_agrees ss ns e f split same)))
meaning_agrees (One t ss g m) ns e f (split, scope) same =
    ap (one_term g) (meaning_agrees m (numbers_inside ss ns) (inside ss e) (inside ss f) scope (inside_agrees ss ns e f split same))
meaning_agrees (Two t ss g m n) ns e f (split, one, other) same =
    let inner = inside_agrees ss ns e f split same in
    let left = meaning_agrees m (numbers_inside ss ns) (inside ss e) (inside ss f) one inner in
    let right = meaning_agrees n (numbers_inside ss ns) (inside ss e) (inside ss f) other inner in
    λ i. two_term g (left i) (right i)
meaning_agrees (If t ss m n p) ns e f (split, first, second, third) same =
    let inner = inside_agrees ss ns e f split same in
    let first_same = meaning_agrees m (numbers_inside ss ns) (inside ss e) (inside ss f) first inner in
    let second_same = meaning_agrees n (numbers_inside ss ns) (inside ss e) (inside ss f) second inner in
    let third_same = meaning_agrees p (numbers_inside ss ns) (inside ss e) (inside ss f) third inner in
    λ i. terms.If (first_same i) (second_same i) (third_same i)
