-- The branches of a node of one, two and three parts, each with the numbers that it inherits.
use Rattle.std.specs.Prelude.{◌≡◌, ◌≢◌, ℕ, zero, suc, List, [], ◌∷◌, ◌++◌, Contains}
use Rattle.std.proofs.Common.{refl, subst, arith}
use Rattle.gos_types.specs.Types.{Type', Com, Exp, Var, Pair, Fun}
use Rattle.gos_check.specs.declared.linear.Split.{Split}
use Rattle.gos_check.specs.Nodes.{Numbered, One, Two, If, OfNot, TwoForm}
use Rattle.gos_check.specs.Linearity.{sides, used, made}
use Rattle.gos_check.proofs.TimesLemmas.{times-append}
use Rattle.gos_nodes.specs.sessions.Sessions.{bits}
use Rattle.gos_compile.specs.Wiring.{Types, answer_bits}
use Rattle.gos_terms.specs.numbers.Kept.{IsKept}
use Rattle.gos_terms.specs.numbers.Inherited.{own_numbers, first_numbers, IsPart, BothAreKept, ThreeAreKept}
use Rattle.gos_terms.proofs.numbers.ListLemmas.{times_inside}
use Rattle.gos_terms.specs.run_children.Forks.{Branch, AreBranches}
use Rattle.gos_terms.specs.run_children.Forms.{branch}

-- the bits of an answer, as the wiring and the sessions have them
pub same_bits : (t : Type') → answer_bits t ≡ bits t
same_bits Com = refl
same_bits (Exp w) = refl
same_bits (Var w) = refl
same_bits (Pair a b) = refl
same_bits (Fun a b) = refl

pub no_empty : (b : Branch) (bs : List Branch) → b ∷ bs ≢ []
no_empty b bs e = cc e

-- what holds of each of some branches
pub of_one : (P : Branch → Type 0) (a : Branch) → P a → (x : Branch) → Contains (a ∷ []) x → P x
of_one P a pa x (zero, small, at) = subst P at pa
of_one P a pa x (suc k, small, at) = absurd (omega (arith, small))

pub of_two : (P : Branch → Type 0) (a b : Branch) → P a → P b → (x : Branch) → Contains (a ∷ b ∷ []) x → P x
of_two P a b pa pb x (zero, small, at) = subst P at pa
of_two P a b pa pb x (suc zero, small, at) = subst P at pb
of_two P a b pa pb x (suc (suc k), small, at) = absurd (omega (arith, small))

pub of_three : (P : Branch → Type 0) (a b c : Branch) → P a → P b → P c → (x : Branch) → Contains (a ∷ b ∷ c ∷ []) x → P x
of_three P a b c pa pb pc x (zero, small, at) = subst P at pa
of_three P a b c pa pb pc x (suc zero, small, at) = subst P at pb
of_three P a b c pa pb pc x (suc (suc zero), small, at) = subst P at pc
of_three P a b c pa pb pc x (suc (suc (suc k)), small, at) = absurd (omega (arith, small))

-- a part that comes before others, which have their numbers too, and one that has those that are left
abbrev pub first_branch : List Split → List ℕ → List ℕ → Numbered → Branch
first_branch ss ns others m = branch m (first_numbers ss ns others)

abbrev pub own_branch : List Split → List ℕ → Numbered → Branch
own_branch ss ns m = branch m (own_numbers ss ns m)

-- the branches of a node of one, two and three parts
pub one_branch : (types : Types) (ns : List ℕ) (t : Type') (m : Numbered) → IsPart types [] ns ns m → IsKept types ns (One t [] OfNot m)
    → AreBranches types [] ns (branch m ns ∷ [])
one_branch types ns t m part is =
    record {
      parts = of_one (λ b. IsPart types [] ns b.uses b.term) (branch m ns) part;
      covers = λ k none. (let sum = times-append k ns [] in omega (arith, sum));
      once = λ k. (let sum = times-append k (made m) [] in let one = is.once k in omega (arith, sum, one));
    }

module _ (types : Types) (ns : List ℕ) (t : Type') (ss : List Split) where
  pub two_branches : BothAreKept → (f : TwoForm) (m n : Numbered) → IsKept types ns (Two t ss f m n)
      → AreBranches types ss ns (first_branch ss ns (used n) m ∷ own_branch ss ns n ∷ [])
  two_branches kept f m n is =
      let (first, second, all) = kept types ns t ss f m n is in
      record {
        parts = of_two (λ b. IsPart types ss ns b.uses b.term) (branch m ms) (branch n ks) first second;
        covers =
            λ k none.
            (let sum = all k none in let one = times-append k ms (ks ++ []) in let two = times-append k ks [] in omega (arith, sum, one, two));
        once =
            λ k.
            (let one = is.once k in let inner = times_inside k ss ns in
            let two = times-append k (sides ss) (made m ++ made n) in let three = times-append k (made m) (made n) in
            let four = times-append k (made m) (made n ++ []) in let five = times-append k (made n) [] in
            omega (arith, one, inner, two, three, four, five));
      }
    where
      ms : List ℕ
      ms = first_numbers ss ns (used n)

      ks : List ℕ
      ks = own_numbers ss ns n

  pub three_branches : ThreeAreKept → (m n p : Numbered) → IsKept types ns (If t ss m n p)
      → AreBranches types ss ns (first_branch ss ns (used n ++ used p) m ∷ own_branch ss ns n ∷ own_branch ss ns p ∷ [])
  three_branches kept m n p is =
      let (first, second, third, all) = kept types ns t ss m n p is in
      record {
        parts = of_three (λ b. IsPart types ss ns b.uses b.term) (branch m ms) (branch n ks) (branch p ls) first second third;
        covers =
            λ k none.
            (let sum = all k none in let one = times-append k ms (ks ++ (ls ++ [])) in let two = times-append k ks (ls ++ []) in
            let three = times-append k ls [] in omega (arith, sum, one, two, three));
        once =
            λ k.
            (let one = is.once k in let inner = times_inside k ss ns in
            let two = times-append k (sides ss) (made m ++ (made n ++ made p)) in let three = times-append k (made m) (made n ++ made p) in
            let four = times-append k (made n) (made p) in let five = times-append k (made m) (made n ++ (made p ++ [])) in
            let six = times-append k (made n) (made p ++ []) in let seven = times-append k (made p) [] in
            omega (arith, one, inner, two, three, four, five, six, seven));
      }
    where
      ms : List ℕ
      ms = first_numbers ss ns (used n ++ used p)

      ks : List ℕ
      ks = own_numbers ss ns n

      ls : List ℕ
      ls = own_numbers ss ns p
