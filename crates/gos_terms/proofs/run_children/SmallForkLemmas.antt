-- Small forks of `skip`.
use Rattle.std.specs.Prelude.{Contains}
use Rattle.std.proofs.Common.{◌≡◌, ℕ, zero, suc, List, [], ◌∷◌, refl, subst, arith}
use Rattle.gos_types.specs.Types.{Com}
use Rattle.gos_terms.specs.run_children.Forks.{Branch}
use Rattle.gos_terms.specs.run_children.Forms.{branch}
use Rattle.gos_terms.specs.run_children.SmallForks.{commands, skip, BothAreBranches, OneIsNotAll, NoneIsLeft, ZeroIsLeft}
use Rattle.gos_terms.proofs.run_children.FormLemmas.{sequence_is_fork}
use Rattle.gos_terms.specs.numbers.Inherited.{IsPart}

pub both_are_branches : BothAreBranches
both_are_branches = sequence_is_fork commands Com [] skip skip [] [] tt refl refl

pub one_is_not_all : OneIsNotAll
one_is_not_all fork = let count : 3 ≡ 2 = fork.shakes in omega (arith, count)

nothing : {P : Type 0} (n : ℕ) → Contains [] n → P
nothing n (k, lt, e) = absurd (omega (arith, lt))

skip_is_part : IsPart commands [] [] [] skip
skip_is_part =
    record {
      kept =
          record {
            once = λ k. omega arith;
            used_once = λ k. omega arith;
            scope = tt;
            within = λ k some. absurd (omega (arith, some));
            apart = tt;
            forks = refl;
            typed = (tt, refl);
          };
      tidy =
          record {
            sides_once = λ k. omega arith;
            split_once = λ k. omega arith;
            in_order = tt;
            apart = tt;
            outside = λ n there. nothing n there;
          };
      agree = tt;
      split = tt;
      scope = λ n there. nothing n there;
      covers = λ n some. absurd (omega (arith, some));
      unmade = λ n there. refl;
    }

pub none_is_left : NoneIsLeft
none_is_left = record { parts = each (branch skip [] ∷ branch skip [] ∷ []) alike; covers = λ k none. refl; once = λ k. omega arith }
  where
    alike : (b : Branch) → Contains (branch skip [] ∷ branch skip [] ∷ []) b → branch skip [] ≡ b
    alike b (zero, lt, e) = e
    alike b (suc zero, lt, e) = e
    alike b (suc (suc k), lt, e) = absurd (omega (arith, lt))

    each : (bs : List Branch) → ((b : Branch) → Contains bs b → branch skip [] ≡ b) → (b : Branch) → Contains bs b → IsPart commands [] [] b.uses b.term
    each bs same b there = subst (λ (x : Branch). IsPart commands [] [] x.uses x.term) (same b there) skip_is_part

pub zero_is_left : ZeroIsLeft
zero_is_left are = let left : 0 ≡ 1 = are.covers 0 refl in omega (arith, left)
