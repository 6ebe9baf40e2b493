-- A part of a node, by what is made and used beside it.
use Rattle.std.specs.Prelude.{◌≡◌, ℕ, ◌+◌, ◌<◌, ◌≤◌, ◌⊎◌, List, [], ◌∷◌, Contains}
use Rattle.std.proofs.Common.{arith, inl, inr}
use Rattle.gos_model.proofs.NumberLemmas.{either}
use Rattle.gos_check.specs.declared.linear.Split.{Split}
use Rattle.gos_check.specs.Nodes.{Numbered}
use Rattle.gos_check.specs.Linearity.{times, split_in, sides, used, made, IsSplitBetween, SidesApart}
use Rattle.gos_check.proofs.TimesLemmas.{some_times, listed_times}
use Rattle.gos_terms.specs.leaves.Splits.{SidesUsedWithin, SplitsAtForks}
use Rattle.gos_terms.proofs.leaves.CountLemmas.{left_in, right_in}
use Rattle.gos_compile.specs.Wiring.{Types}
use Rattle.gos_compile.specs.Typed.{NodesTyped, SidesTyped}
use Rattle.gos_terms.specs.stages.Inside.{numbers_inside, AreSplit, SidesAgree}
use Rattle.gos_terms.specs.numbers.Kept.{InScope}
use Rattle.gos_terms.specs.numbers.Inherited.{IsPart, is_in}
use Rattle.gos_terms.proofs.numbers.ListLemmas.{times_inside, true_lt}
use Rattle.gos_terms.proofs.numbers.ScopeLemmas.{restrict, covered, in_order}
use Rattle.gos_terms.proofs.numbers.ApartLemmas.{side_comes, are_apart}

sides_agree : (types : Types) (ss : List Split) → SidesTyped types ss → SidesAgree ss types
sides_agree types [] h = tt
sides_agree types (s ∷ ss) (left, right, rest) = (left, right, sides_agree types ss rest)

-- what is known of a part of a node where its numbers are ns inside, and uses are its own
pub record Beside (types : Types) (ss : List Split) (ns uses : List ℕ) (m : Numbered) : Type 0 where
  pub once : (k : ℕ) → times k (sides ss) + (times k (made m) + times k ns) ≤ 1
  pub used_once : (k : ℕ) → times k (split_in ss) + times k (used m) ≤ 1
  pub split : AreSplit ss ns
  pub scope : InScope (numbers_inside ss ns) m
  pub between : IsSplitBetween ss m
  pub agree : SidesTyped types ss
  pub within : SidesUsedWithin m
  pub apart : SidesApart m
  pub forks : SplitsAtForks m
  pub typed : NodesTyped types m
  pub few : (k : ℕ) → times k uses ≤ times k (numbers_inside ss ns)
  pub unsplit : (k : ℕ) → 0 < times k uses → times k (split_in ss) ≡ 0
  pub all : (k : ℕ) → 0 < times k (used m) → 0 < times k (numbers_inside ss ns) → 0 < times k uses
  pub sides : (k : ℕ) → 0 < times k (sides ss) → 0 < times k uses → 0 < times k (used m)

pub is_part : (types : Types) (ss : List Split) (ns uses : List ℕ) (m : Numbered) → Beside types ss ns uses m → IsPart types ss ns uses m
is_part types ss ns uses m is =
    let scope = restrict m (numbers_inside ss ns) uses is.all is.scope in
    record {
      kept =
          record {
            once = λ k. (let one = is.once k in let less = is.few k in let inside = times_inside k ss ns in omega (arith, one, less, inside));
            used_once = λ k. (let one = is.used_once k in omega (arith, one));
            scope = scope;
            within = is.within;
            apart = is.apart;
            forks = is.forks;
            typed = is.typed;
          };
      tidy =
          record {
            sides_once = λ k. (let one = is.once k in omega (arith, one));
            split_once = λ k. (let one = is.used_once k in omega (arith, one));
            in_order = in_order ss ns (λ k. (let one = is.once k in omega (arith, one))) is.split;
            apart =
                are_apart ss (is_in uses)
                (λ s a b one c d i j. is.between s a b one c d
                (is.sides a (side_comes ss s.left a c (left_in s ss one)) (true_lt (times a uses) i))
                (is.sides b (side_comes ss s.right b d (right_in s ss one)) (true_lt (times b uses) j)));
            outside = λ n there. (let one = is.once n in let here = some_times n ns there in omega (arith, one, here));
          };
      agree = sides_agree types ss is.agree;
      split = is.split;
      scope = λ n there. (
          let here = some_times n uses there in let less = is.few n in
          (listed_times n (numbers_inside ss ns) (omega (arith, here, less)), is.unsplit n here));
      covers = λ n small. by_part n (either (times n (made m)) (times n uses) (covered m uses is.forks scope n small));
      unmade = λ n there. (
          let here = some_times n (numbers_inside ss ns) there in let one = is.once n in let inside = times_inside n ss ns in omega (arith, here, one, inside));
    }
  where
    by_part : (n : ℕ) → (0 < times n (made m)) ⊎ (0 < times n uses) → (0 < times n (made m)) ⊎ Contains uses n
    by_part n (inl h) = inl h
    by_part n (inr h) = inr (listed_times n uses h)
