-- Small examples of branches that are run.
use Rattle.std.specs.Prelude.{[], ◌∷◌, ◌++◌, length}
use Rattle.std.proofs.Common.{◌≡◌, List, refl, arith}
use Rattle.gos_plan.specs.Firing.{Second}
use Rattle.gos_types.specs.Types.{Com}
use Rattle.gos_terms.specs.run_children.Forks.{Branch}
use Rattle.gos_terms.specs.run_children.Forms.{branch}
use Rattle.gos_terms.specs.regular_and_resting.SmallForks.{skip_node, skip_twice, BothAreRun, SecondIsNotRun}
use Rattle.gos_terms.proofs.branches.SessionLemmas.{of_sequence}
use Rattle.gos_terms.proofs.regular_and_resting.FormLemmas.{skips, are_run}

pub both_are_run : BothAreRun
both_are_run = are_run skip_twice (branch skip_node [] ∷ branch skip_node [] ∷ []) (of_sequence skips skip_node skip_node skip_node [] [] [] Com refl refl)

short : (before after : List Branch) (b : Branch) → branch skip_node [] ∷ [] ≡ before ++ b ∷ after → 1 ≡ length before → ⊥
short [] after b same one = omega (arith, one)
short (a ∷ []) after b same one = let more : [] ≡ b ∷ after = cc same in cc more
short (a ∷ (c ∷ before)) after b same one = omega (arith, one)

pub second_is_not_run : SecondIsNotRun
second_is_not_run runs = let (before, after, b, same, asked, ty) = runs Second 0 _ refl in short before after b same asked
