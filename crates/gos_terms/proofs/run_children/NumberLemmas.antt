-- The numbers of other branches: a branch doesn't use them or make them, and the node doesn't split them.
use Rattle.std.specs.Prelude.{◌+◌, ◌<◌, ◌≤◌, Contains}
use Rattle.std.proofs.Common.{◌≡◌, ℕ, suc, List, [], ◌∷◌, ◌++◌, inl, inr, refl, subst, arith}
use Rattle.gos_model.proofs.NumberLemmas.{either, number_cases}
use Rattle.gos_check.specs.declared.linear.Split.{Split}
use Rattle.gos_check.specs.Linearity.{times, split_in, sides, made}
use Rattle.gos_check.proofs.TimesLemmas.{times_other, times-append, some_times, listed_times}
use Rattle.gos_compile.specs.Wiring.{Types}
use Rattle.gos_terms.specs.stages.Inside.{numbers_inside, AreSplit}
use Rattle.gos_terms.specs.numbers.Inherited.{IsPart}
use Rattle.gos_terms.specs.run_children.Forks.{Branch, branch_made, branch_uses, AreBranches}

-- in all branches
pub all_made : (before after : List Branch) (b : Branch) (k : ℕ)
    → times k (branch_made (before ++ b ∷ after)) ≡ times k (branch_made before) + (times k (made b.term) + times k (branch_made after))
all_made [] after b k = let one = times-append k (made b.term) (branch_made after) in omega (arith, one)
all_made (a ∷ before) after b k =
    let one = times-append k (made a.term) (branch_made (before ++ b ∷ after)) in
    let two = times-append k (made a.term) (branch_made before) in
    let rest = all_made before after b k in
    omega (arith, one, two, rest)

pub all_uses : (before after : List Branch) (b : Branch) (k : ℕ)
    → times k (branch_uses (before ++ b ∷ after)) ≡ times k (branch_uses before) + (times k b.uses + times k (branch_uses after))
all_uses [] after b k = let one = times-append k b.uses (branch_uses after) in omega (arith, one)
all_uses (a ∷ before) after b k =
    let one = times-append k a.uses (branch_uses (before ++ b ∷ after)) in
    let two = times-append k a.uses (branch_uses before) in
    let rest = all_uses before after b k in
    omega (arith, one, two, rest)

-- what isn't there inside splits isn't split
pub times_inside : (ss : List Split) (ns : List ℕ) (k : ℕ) → times k (numbers_inside ss ns) ≡ times k ns + times k (sides ss)
times_inside [] ns k = omega arith
times_inside (s ∷ ss) ns k = let rest = times_inside ss (s.left ∷ s.right ∷ ns) k in omega (arith, rest)

absent_unsplit : (ss : List Split) (ns : List ℕ) (k : ℕ) → AreSplit ss ns → times k (numbers_inside ss ns) ≡ 0 → times k (split_in ss) ≡ 0
absent_unsplit [] ns k split none = refl
absent_unsplit (s ∷ ss) ns k (of, split) none =
    let rest = absent_unsplit ss (s.left ∷ s.right ∷ ns) k split none in
    number_cases s.of k
    (λ e t. let there : 0 < times k ns = subst (λ (n : ℕ). 0 < times n ns) e (some_times s.of ns of) in
    let all = times_inside ss (s.left ∷ s.right ∷ ns) k in absurd (omega (arith, there, all, none)))
    (λ e t. let less = times_other k s.of (split_in ss) e in omega (arith, less, rest))

-- what a branch has a supply for isn't split
used_unsplit : (types : Types) (ss : List Split) (ns : List ℕ) (bs : List Branch) → ((b : Branch) → Contains bs b → IsPart types ss ns b.uses b.term)
    → (k : ℕ) → 0 < times k (branch_uses bs) → times k (split_in ss) ≡ 0
used_unsplit types ss ns [] parts k some = absurd (omega (arith, some))
used_unsplit types ss ns (b ∷ bs) parts k some =
    let all = times-append k b.uses (branch_uses bs) in
    elim (either (times k b.uses) (times k (branch_uses bs)) (omega (arith, some, all))) [
      | inl own ↦ ((parts b (0, omega arith, refl)).scope k (listed_times k b.uses own)).1
      | inr rest ↦ used_unsplit types ss ns bs (λ a there. parts a (suc there.0, omega (arith, there.1), there.2)) k rest
    ]

-- a number of which a branch knows nothing, and that isn't split
pub record IsOthers (ss : List Split) (b : Branch) (k : ℕ) : Type 0 where
  pub unused : times k b.uses ≡ 0
  pub unmade : times k (made b.term) ≡ 0
  pub unsplit : times k (split_in ss) ≡ 0

-- Such is each that is made or used among some of the branches, but not counting it.
pub others_so : (types : Types) (ss : List Split) (ns : List ℕ) (bs : List Branch) (b : Branch) (k m u : ℕ) → AreBranches types ss ns bs → AreSplit ss ns
    → m + times k (made b.term) ≤ times k (branch_made bs) → u + times k b.uses ≤ times k (branch_uses bs) → 0 < m + u → IsOthers ss b k
others_so types ss ns bs b k m u are split less_made less_uses some =
    record { unused = unused; unmade = omega (arith, once, all, some, less_made, less_uses); unsplit = unsplit }
  where
    once : times k (branch_made bs) + times k (numbers_inside ss ns) ≤ 1
    once = are.once k

    unsplit : times k (split_in ss) ≡ 0
    unsplit =
        elim (either m u some) [
          | inl one ↦ absent_unsplit ss ns k split (omega (arith, once, one, less_made))
          | inr other ↦ used_unsplit types ss ns bs are.parts k (omega (arith, other, less_uses))
        ]

    all : times k (branch_uses bs) ≡ times k (numbers_inside ss ns)
    all = are.covers k unsplit

    unused : times k b.uses ≡ 0
    unused = omega (arith, once, all, some, less_made, less_uses)
