-- From a number that a node uses or splits, one comes that a part of it uses; both stand for the same.
use Rattle.std.specs.Prelude.{◌≡◌, ◌≢◌, ℕ, ◌+◌, ◌<◌, ◌≤◌, List, [], ◌∷◌}
use Rattle.std.proofs.Common.{refl, ◌∙◌, subst, arith, inl}
use Rattle.gos_model.proofs.NumberLemmas.{number_cases}
use Rattle.gos_check.specs.declared.linear.Split.{Split}
use Rattle.gos_check.specs.Nodes.{Meaning, inside, inside_one}
use Rattle.gos_check.specs.Linearity.{times, split_in, sides, Comes, itself, by_left, by_right}
use Rattle.gos_check.proofs.TimesLemmas.{times_same, times_other, times_none, one_other, one_left, one_right}
use Rattle.gos_terms.proofs.leaves.CountLemmas.{behind, left_in, right_in}
use Rattle.gos_terms.specs.stages.Lodging.{AreInOrder}
use Rattle.gos_terms.proofs.numbers.ApartLemmas.{further, side_comes}

abbrev pub Reached : List Split → Meaning → (ℕ → ℕ) → ℕ → Type 0
Reached ss env uses k = (a : ℕ) × Comes ss k a × (0 < uses a) × (inside ss env a ≡ env k)

-- what is asked of the splits: each side is used, or split behind
pub record Used (ss : List Split) (uses : ℕ → ℕ) : Type 0 where
  pub order : AreInOrder ss
  pub once : (k : ℕ) → times k (sides ss) ≤ 1
  pub all : (k : ℕ) → 0 < times k (sides ss) → 0 < times k (split_in ss) + uses k

module _ (s : Split) (ss : List Split) (uses : ℕ → ℕ) (is : Used (s ∷ ss) uses) where
  apart_from : (k : ℕ) → 0 < times k (sides (s ∷ ss)) → s.of ≢ k
  apart_from k small e =
      let none : times k (sides (s ∷ ss)) ≡ 0 = subst (λ (a : ℕ). times a (sides (s ∷ ss)) ≡ 0) e is.order.0 in omega (arith, small, none)

  still_used : (k : ℕ) → 0 < times k (sides (s ∷ ss)) → 0 < times k (split_in ss) + uses k
  still_used k small = let all = is.all k small in let same = times_other k s.of (split_in ss) (apart_from k small) in omega (arith, all, same)

  more : (k : ℕ) → times k (sides ss) ≤ times k (sides (s ∷ ss))
  more k = let one = behind k s.left (s.right ∷ sides ss) in let two = behind k s.right (sides ss) in omega (arith, one, two)

  pub later : Used ss uses
  later =
      record {
        order = is.order.1;
        once = λ k. (let all = is.once k in let less = more k in omega (arith, all, less));
        all = λ k small. still_used k (let less = more k in omega (arith, small, less));
      }

  left_there : 0 < times s.left (sides (s ∷ ss))
  left_there = left_in s (s ∷ ss) (inl refl)

  right_there : 0 < times s.right (sides (s ∷ ss))
  right_there = right_in s (s ∷ ss) (inl refl)

  left_alone : times s.left (sides ss) ≡ 0
  left_alone =
      let all = is.once s.left in let one = times_same s.left (s.right ∷ sides ss) in let two = behind s.left s.right (sides ss) in omega (arith, all, one, two)

  right_alone : times s.right (sides ss) ≡ 0
  right_alone =
      let all = is.once s.right in let one = behind s.right s.left (s.right ∷ sides ss) in let two = times_same s.right (sides ss) in omega (arith, all, one, two)

  left_used : 0 < times s.left (split_in ss) + uses s.left
  left_used = still_used s.left left_there

  right_used : 0 < times s.right (split_in ss) + uses s.right
  right_used = still_used s.right right_there

pub reach : (ss : List Split) (env : Meaning) (uses : ℕ → ℕ) (k : ℕ) → Used ss uses → times k (sides ss) ≡ 0 → 0 < times k (split_in ss) + uses k → Reached ss env uses k
reach [] env uses k is free small = (k, itself k, omega (arith, small), refl)
reach (s ∷ ss) env uses k is free small =
    number_cases s.of k
    (λ e t. split e (reach ss (inside_one s env) uses s.left (later s ss uses is) (left_alone s ss uses is) (left_used s ss uses is)))
    (λ e f. stays (reach ss (inside_one s env) uses k (later s ss uses is) (let less = more s ss uses is k in omega (arith, free, less))
    (let same = times_other k s.of (split_in ss) e in omega (arith, small, same))))
  where
    split : s.of ≡ k → Reached ss (inside_one s env) uses s.left → Reached (s ∷ ss) env uses k
    split e (a, c, u, same) =
        subst (Reached (s ∷ ss) env uses) e (a, by_left s a (inl refl) (further s ss s.left a c), u, same ∙ one_left s env)

    stays : Reached ss (inside_one s env) uses k → Reached (s ∷ ss) env uses k
    stays (a, c, u, same) =
        let left = times_none k s.left (s.right ∷ sides ss) free in
        let right = times_none k s.right (sides ss) left.1 in
        (a, further s ss k a c, u, same ∙ one_other s env k left.0 right.0)

-- from both sides of the first split
pub reach_left : (s : Split) (ss : List Split) (env : Meaning) (uses : ℕ → ℕ) → Used (s ∷ ss) uses
    → (a : ℕ) × Comes (s ∷ ss) s.left a × (0 < uses a) × (inside (s ∷ ss) env a ≡ env s.of)
reach_left s ss env uses is =
    let (a, c, u, same) = reach ss (inside_one s env) uses s.left (later s ss uses is) (left_alone s ss uses is) (left_used s ss uses is) in
    (a, further s ss s.left a c, u, same ∙ one_left s env)

pub reach_right : (s : Split) (ss : List Split) (env : Meaning) (uses : ℕ → ℕ) → Used (s ∷ ss) uses
    → (a : ℕ) × Comes (s ∷ ss) s.right a × (0 < uses a) × (inside (s ∷ ss) env a ≡ env s.of)
reach_right s ss env uses is =
    let (a, c, u, same) = reach ss (inside_one s env) uses s.right (later s ss uses is) (right_alone s ss uses is) (right_used s ss uses is) in
    (a, further s ss s.right a c, u, same ∙ one_right s env)

-- what comes from a number is that, or a side
pub comes_none : (ss : List Split) (k a : ℕ) (ns : List ℕ) → Comes ss k a → times k ns ≡ 0 → ((j : ℕ) → 0 < times j (sides ss) → times j ns ≡ 0) → times a ns ≡ 0
comes_none ss k a ns (itself _) none away = none
comes_none ss k a ns (by_left t _ one c) none away = away a (side_comes ss t.left a c (left_in t ss one))
comes_none ss k a ns (by_right t _ one c) none away = away a (side_comes ss t.right a c (right_in t ss one))
