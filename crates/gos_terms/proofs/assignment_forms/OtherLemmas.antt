-- The numbers that one side of an assignment speaks of are nothing to the other side.
use Rattle.std.specs.Prelude.{◌+◌, ◌<◌, ◌≤◌, ◌⊎◌, Contains}
use Rattle.std.proofs.Common.{◌≡◌, ℕ, zero, suc, List, ◌++◌, inl, inr, refl, arith}
use Rattle.gos_model.proofs.NumberLemmas.{either}
use Rattle.gos_types.specs.Types.{Com}
use Rattle.gos_check.specs.declared.linear.Split.{Split}
use Rattle.gos_check.specs.Nodes.{Numbered, Two, OfAssign}
use Rattle.gos_check.specs.Linearity.{times, split_in, sides, used, made}
use Rattle.gos_check.proofs.TimesLemmas.{times-append, some_times, listed_times}
use Rattle.gos_compile.specs.Wiring.{Types}
use Rattle.gos_terms.specs.stages.Inside.{numbers_inside}
use Rattle.gos_terms.specs.numbers.Kept.{IsKept}
use Rattle.gos_terms.specs.numbers.Inherited.{first_numbers, own_numbers, IsPart}
use Rattle.gos_terms.proofs.numbers.ScopeLemmas.{split_covered}
use Rattle.gos_terms.proofs.numbers.InheritedLemmas.{both_are_kept}
use Rattle.gos_terms.proofs.run_children.NumberLemmas.{times_inside}

-- a number that is nothing to a side, and that isn't split
pub record IsOthers (ss : List Split) (uses : List ℕ) (m : Numbered) (k : ℕ) : Type 0 where
  pub unused : times k uses ≡ 0
  pub unmade : times k (made m) ≡ 0
  pub unsplit : times k (split_in ss) ≡ 0

module _ (types : Types) (ss : List Split) (ns : List ℕ) (m n : Numbered) (ms ks : List ℕ) (one : IsPart types ss ns ms m) (other : IsPart types ss ns ks n)
    (all : (k : ℕ) → times k (split_in ss) ≡ 0 → times k ms + times k ks ≡ times k (numbers_inside ss ns))
    (once : (k : ℕ) → times k (numbers_inside ss ns) ≤ 1) (apart : (k : ℕ) → times k (made m) + times k (made n) ≤ 1)
    (unsplit : (k : ℕ) → 0 < times k (used n) + times k (made n) → times k (split_in ss) ≡ 0) where
  others_so : (k : ℕ) → 0 < times k (used n) + times k (made n) → IsOthers ss ms m k
  others_so k some = by_made (times k (made n)) refl
    where
      none : times k (split_in ss) ≡ 0
      none = unsplit k some

      not_there : (a b : ℕ) → times k (made n) ≡ suc a → times k ms ≡ b → times k ms ≡ 0
      not_there a zero e is = is
      not_there a (suc b) e is =
          let there = (one.scope k (listed_times k ms (omega (arith, is)))).0 in
          let unmade = other.unmade k there in absurd (omega (arith, unmade, e))

      by_cover : times k (made n) ≡ 0 → (0 < times k (made n)) ⊎ Contains ks k → IsOthers ss ms m k
      by_cover e (inl small) = absurd (omega (arith, e, small))
      by_cover e (inr there) =
          let sum = all k none in let few = once k in let is = some_times k ks there in
          record { unused = omega (arith, sum, few, is); unmade = one.unmade k (other.scope k there).0; unsplit = none }

      by_made : (a : ℕ) → times k (made n) ≡ a → IsOthers ss ms m k
      by_made (suc a) e =
          let two = apart k in
          record { unused = not_there a (times k ms) e refl; unmade = omega (arith, two, e); unsplit = none }
      by_made zero e = by_cover e (other.covers k (omega (arith, e, some)))

module _ (types : Types) (ns : List ℕ) (ss : List Split) (m n : Numbered) (kept : IsKept types ns (Two Com ss OfAssign m n)) where
  abbrev pub ms : List ℕ
  ms = first_numbers ss ns (used n)

  abbrev pub ks : List ℕ
  ks = own_numbers ss ns n

  pub variable_part : IsPart types ss ns (first_numbers ss ns (used n)) m
  variable_part = (both_are_kept types ns Com ss OfAssign m n kept).0

  pub number_part : IsPart types ss ns (own_numbers ss ns n) n
  number_part = (both_are_kept types ns Com ss OfAssign m n kept).1

  pub all_numbers : (k : ℕ) → times k (split_in ss) ≡ 0
      → times k (first_numbers ss ns (used n)) + times k (own_numbers ss ns n) ≡ times k (numbers_inside ss ns)
  all_numbers = (both_are_kept types ns Com ss OfAssign m n kept).2

  made_two : (k : ℕ) → times k (made (Two Com ss OfAssign m n)) ≡ times k (sides ss) + (times k (made m) + times k (made n))
  made_two k = let one = times-append k (sides ss) (made m ++ made n) in let two = times-append k (made m) (made n) in omega (arith, one, two)

  used_two : (k : ℕ) → times k (used (Two Com ss OfAssign m n)) ≡ times k (split_in ss) + (times k (used m) + times k (used n))
  used_two k = let one = times-append k (split_in ss) (used m ++ used n) in let two = times-append k (used m) (used n) in omega (arith, one, two)

  inside_once : (k : ℕ) → times k (numbers_inside ss ns) ≤ 1
  inside_once k = let all = made_two k in let one = kept.once k in let inside = times_inside ss ns k in omega (arith, all, one, inside)

  unsplit_so : (k : ℕ) → 0 < times k (used m) + times k (used n) + (times k (made m) + times k (made n)) → times k (split_in ss) ≡ 0
  unsplit_so k some = by_size (times k (split_in ss)) refl
    where
      by_size : (a : ℕ) → times k (split_in ss) ≡ a → times k (split_in ss) ≡ 0
      by_size zero e = e
      by_size (suc a) e =
          let there = split_covered ss ns kept.scope.0 k (omega (arith, e)) in
          let all = made_two k in let one = kept.once k in let uses = used_two k in let two = kept.used_once k in
          absurd (omega (arith, e, there, all, one, uses, two, some))

  pub not_variables : (k : ℕ) → 0 < times k (used n) + times k (made n) → IsOthers ss (first_numbers ss ns (used n)) m k
  not_variables k some =
      others_so types ss ns m n ms ks variable_part number_part all_numbers inside_once
      (λ k. (let all = made_two k in let one = kept.once k in omega (arith, all, one)))
      (λ k few. unsplit_so k (omega (arith, few))) k some

  pub not_numbers : (k : ℕ) → 0 < times k (used m) + times k (made m) → IsOthers ss (own_numbers ss ns n) n k
  not_numbers k some =
      others_so types ss ns n m ks ms number_part variable_part (λ k none. (let all = all_numbers k none in omega (arith, all))) inside_once
      (λ k. (let all = made_two k in let one = kept.once k in omega (arith, all, one)))
      (λ k few. unsplit_so k (omega (arith, few))) k some

  -- each number that isn't split is one of the two sides'
  pub either_side : (k : ℕ) → Contains (numbers_inside ss ns) k → times k (split_in ss) ≡ 0
      → (0 < times k (first_numbers ss ns (used n))) ⊎ (0 < times k (own_numbers ss ns n))
  either_side k there none =
      let sum = all_numbers k none in let some = some_times k (numbers_inside ss ns) there in
      either (times k (first_numbers ss ns (used n))) (times k (own_numbers ss ns n)) (omega (arith, sum, some))
