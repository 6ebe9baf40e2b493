-- The parts of a node that applies are the function's, and then the argument's.
use Rattle.std.specs.Prelude.{◌≡◌, ℕ, ◌+◌, ◌-◌, ◌<◌, ◌≤◌, Bool, true, false, List, ◌++◌, ◌⊎◌, length, nat_lt, slice_get, Contains}
use Rattle.std.proofs.Common.{refl, sym, ◌∙◌, ap, arith, inl, inr}
use Rattle.std.proofs.lemmas.Option.{slice_get_within}
use Rattle.std.proofs.lemmas.Bool.Decides.{nat_tests}
use Rattle.std.proofs.lemmas.Bool.{lt-ltb, le-ltb}
use Rattle.gos_types.proofs.ListLemmas.{found_behind, same_in_front}
use Rattle.gos_check.specs.Linearity.{times}
use Rattle.gos_check.proofs.TimesLemmas.{some_times, listed_times}
use Rattle.gos_plan.specs.Kinds.{Part}
use Rattle.gos_terms.specs.wired.Wired.{Supplies, Source, Own, Supplied, IsFrom}
use Rattle.gos_terms.specs.applying.Uses.{AreParted}
use Rattle.gos_terms.proofs.applying.ChosenLemmas.{Choice}

-- the sources of the argument, among the node's, where the function has so many parts
abbrev pub up : ℕ → Source → Source
up n (Own k) = Own (n + k)
up n (Supplied m k) = Supplied m k

abbrev pub down : ℕ → Source → Source
down n (Own k) = Own (k - n)
down n (Supplied m k) = Supplied m k

abbrev pub itself : Source → Source
itself o = o

-- of the function
abbrev pub of_first : ℕ → (ℕ → Bool) → Source → Bool
of_first n has (Own k) = nat_lt k n
of_first n has (Supplied m k) = has m

module _
    (ours others' : List Part) (ns ms ks : List ℕ) (env : Supplies) (parted : AreParted ns ms ks) where
  abbrev has : ℕ → Bool
  has k = nat_lt 0 (times k ms)

  has_it : (k : ℕ) → Contains ms k → has k ≡ true
  has_it k among = lt-ltb 0 (times k ms) (some_times k ms among)

  it_has : (k : ℕ) → has k ≡ true → Contains ms k
  it_has k is = let some : 0 < times k ms = grind (arith, nat_tests) in listed_times k ms some

  has_not : (k : ℕ) → Contains ks k → has k ≡ false
  has_not k among = by_test (has k) refl
    where
      by_test : (b : Bool) → has k ≡ b → has k ≡ false
      by_test true is = absurd (parted.apart k (it_has k is) among)
      by_test false is = is

  not_has : (k : ℕ) → Contains ns k → has k ≡ false → Contains ks k
  not_has k among is = either (parted.either k among)
    where
      either : Contains ms k ⊎ Contains ks k → Contains ks k
      either (inl first) = let it = has_it k first in let no_such : true ≡ false = sym it ∙ is in absurd (cc no_such)
      either (inr second) = second

  abbrev all : List Part
  all = ours ++ others'

  abbrev picks : Source → Bool
  picks = of_first (length ours) has

  first_inward : (x : Part) (s : Source) → IsFrom ours ms env x s → IsFrom all ns env x s × (picks s ≡ true) × (s ≡ s)
  first_inward x (Own k) at =
      let low = slice_get_within ours k x at in (same_in_front ours others' k low ∙ at, lt-ltb k (length ours) low, refl)
  first_inward x (Supplied n k) (among, at) = ((parted.first n among, at), has_it n among, refl)

  first_outward : (x : Part) (s : Source) → IsFrom all ns env x s → picks s ≡ true → IsFrom ours ms env x s × (s ≡ s)
  first_outward x (Own k) at is =
      let low : k < length ours = grind (arith, nat_tests) in (sym (same_in_front ours others' k low) ∙ at, refl)
  first_outward x (Supplied n k) (among, at) is = ((it_has n is, at), refl)

  pub first_choice : Choice ours all ns ms env true picks has itself itself
  first_choice =
      record {
        inward = first_inward;
        outward = first_outward;
        among = λ n among. (parted.first n among, has_it n among);
        within = λ n among is. it_has n is;
      }

  second_inward : (x : Part) (s : Source) → IsFrom others' ks env x s
      → IsFrom all ns env x (up (length ours) s) × (picks (up (length ours) s) ≡ false) × (down (length ours) (up (length ours) s) ≡ s)
  second_inward x (Own k) at =
      let less : (length ours + k) - length ours ≡ k = omega arith in
      (found_behind ours others' k ∙ at, le-ltb (length ours + k) (length ours) (omega arith), ap Own less)
  second_inward x (Supplied n k) (among, at) = ((parted.second n among, at), has_not n among, refl)

  second_outward : (x : Part) (s : Source) → IsFrom all ns env x s → picks s ≡ false
      → IsFrom others' ks env x (down (length ours) s) × (up (length ours) (down (length ours) s) ≡ s)
  second_outward x (Own k) at is =
      let high : length ours ≤ k = grind (arith, nat_tests) in
      let sum : length ours + (k - length ours) ≡ k = omega (arith, high) in
      (sym (found_behind ours others' (k - length ours)) ∙ (ap (slice_get (ours ++ others')) sum ∙ at), ap Own sum)
  second_outward x (Supplied n k) (among, at) is = ((not_has n among is, at), refl)

  pub second_choice : Choice others' all ns ks env false picks has (up (length ours)) (down (length ours))
  second_choice =
      record {
        inward = second_inward;
        outward = second_outward;
        among = λ n among. (parted.second n among, has_not n among);
        within = λ n among is. not_has n among is;
      }
