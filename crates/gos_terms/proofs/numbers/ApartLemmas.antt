-- No split has two live sides, as a part that uses what comes from both would be on both sides.
use Rattle.std.specs.Prelude.{◌≡◌, ℕ, ◌<◌, ◌⊎◌, ◌||◌, Bool, true, false, List, [], ◌∷◌, nat_eq, if◌then◌else◌}
use Rattle.std.proofs.Common.{refl, sym, subst, inl, inr}
use Rattle.std.proofs.lemmas.Bool.{eqb-true, or_cases}
use Rattle.gos_check.specs.declared.linear.Split.{Split}
use Rattle.gos_check.specs.Linearity.{times, sides, IsOneOf, Comes, itself, by_left, by_right}
use Rattle.gos_terms.proofs.leaves.CountLemmas.{left_in, right_in}
use Rattle.gos_terms.specs.stages.Lodging.{live, AreApart}

-- with one split more
pub further : (s : Split) (ss : List Split) (n a : ℕ) → Comes ss n a → Comes (s ∷ ss) n a
further s ss n a (itself _) = itself n
further s ss n a (by_left t _ one c) = by_left t a (inr one) (further s ss t.left a c)
further s ss n a (by_right t _ one c) = by_right t a (inr one) (further s ss t.right a c)

-- what comes from a side is a side
pub side_comes : (ss : List Split) (n a : ℕ) → Comes ss n a → 0 < times n (sides ss) → 0 < times a (sides ss)
side_comes ss n a (itself _) small = small
side_comes ss n a (by_left t _ one c) small = side_comes ss t.left a c (left_in t ss one)
side_comes ss n a (by_right t _ one c) small = side_comes ss t.right a c (right_in t ss one)

-- from a live number one comes that is live inside
abbrev Lives : List Split → (ℕ → Bool) → ℕ → Type 0
Lives ss inner n = (a : ℕ) × Comes ss n a × (inner a ≡ true)

lives : (ss : List Split) (inner : ℕ → Bool) (n : ℕ) → live ss inner n ≡ true → Lives ss inner n
lives [] inner n e = (n, itself n, e)
lives (s ∷ ss) inner n e =
    by_test (nat_eq n s.of) refl e (λ h. lives ss inner s.left h) (λ h. lives ss inner s.right h) (λ h. lives ss inner n h)
  where
    by_side : (live ss inner s.left ≡ true → Lives ss inner s.left) → (live ss inner s.right ≡ true → Lives ss inner s.right)
        → (live ss inner s.left ≡ true) ⊎ (live ss inner s.right ≡ true) → Lives (s ∷ ss) inner s.of
    by_side left right (inl h) = let (a, c, i) = left h in (a, by_left s a (inl refl) (further s ss s.left a c), i)
    by_side left right (inr h) = let (a, c, i) = right h in (a, by_right s a (inl refl) (further s ss s.right a c), i)

    by_test : (b : Bool) → nat_eq n s.of ≡ b → (if b then live ss inner s.left || live ss inner s.right else live ss inner n) ≡ true
        → (live ss inner s.left ≡ true → Lives ss inner s.left) → (live ss inner s.right ≡ true → Lives ss inner s.right)
        → (live ss inner n ≡ true → Lives ss inner n) → Lives (s ∷ ss) inner n
    by_test true t h left right same =
        subst (Lives (s ∷ ss) inner) (sym (eqb-true n s.of t)) (by_side left right (or_cases (live ss inner s.left) (live ss inner s.right) h))
    by_test false t h left right same = let (a, c, i) = same h in (a, further s ss n a c, i)

pub are_apart : (ss : List Split) (inner : ℕ → Bool)
    → ((s : Split) (a b : ℕ) → IsOneOf s ss → Comes ss s.left a → Comes ss s.right b → inner a ≡ true → inner b ≡ true → ⊥) → AreApart inner ss
are_apart [] inner between = tt
are_apart (s ∷ ss) inner between = (
  λ left right. (
      let (a, c, i) = lives ss inner s.left left in
      let (b, d, j) = lives ss inner s.right right in
      between s a b (inl refl) (further s ss s.left a c) (further s ss s.right b d) i j),
  are_apart ss inner (λ t a b one c d i j. between t a b (inr one) (further s ss t.left a c) (further s ss t.right b d) i j),
)
