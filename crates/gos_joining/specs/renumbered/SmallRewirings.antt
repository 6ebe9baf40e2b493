-- A small wiring with its plans in another order.
--
-- Read first: Rewired; SmallPlans of gos_plan. It shows that the definition can be met and can be missed.
use Rattle.std.specs.Prelude.{ℕ, zero, suc, [], ◌∷◌}
use Rattle.gos_types.specs.Types.{Com}
use Rattle.gos_plan.specs.Plans.{ResultEnd}
use Rattle.gos_plan.specs.Joining.{Wiring}
use Rattle.gos_plan.specs.SmallPlans.{skip_plan, same_plan, same_of_skip}
use Rattle.gos_realises.specs.realises.Wirings.{link}
use Rattle.gos_joining.specs.webs.Renumbering.{Renumber}
use Rattle.gos_joining.specs.renumbered.Rewired.{IsRewired}

-- no number is changed
abbrev pub unchanged : Renumber
unchanged = record { part = λ i. i; part_back = λ i. i; import = λ i. i; import_back = λ i. i }

-- the first two plans change places
abbrev pub swapped : ℕ → ℕ
swapped zero = suc zero
swapped (suc zero) = zero
swapped (suc (suc k)) = suc (suc k)

-- the plan of `skip`, and that of `fun a . a`, which is applied to it
abbrev pub skip_first : Wiring
skip_first =
    record {
      plans = skip_plan ∷ same_plan ∷ [];
      links = link 0 (ResultEnd 0) 1 (ResultEnd 0) ∷ [];
      giver = 1;
      skipped = 1;
      outcome = Com;
    }

abbrev pub SwapIsRewired : Type 0
SwapIsRewired = IsRewired swapped swapped (λ k. unchanged) same_of_skip skip_first

-- the result has to go with the function
abbrev pub argument_gives : Wiring
argument_gives = record skip_first { giver = 0 }

abbrev pub ArgumentGivesNot : Type 0
ArgumentGivesNot = IsRewired swapped swapped (λ k. unchanged) same_of_skip argument_gives → ⊥
