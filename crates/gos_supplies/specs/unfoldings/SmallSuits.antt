-- The plan of `skip`, with no supplies: a term that it suits, and one that it doesn't.
--
-- Read first: Functions; SmallPlans of gos_plan. It shows that the definition can be met and can be missed.
use Rattle.gos_model.specs.Terms.{Skip, Lit}
use Rattle.gos_plan.specs.SmallPlans.{skip_plan}
use Rattle.gos_supplies.specs.unfoldings.Functions.{SuitsOpen}

-- it suits `skip`
abbrev pub SkipSuits : Type 0
SkipSuits = SuitsOpen skip_plan Skip

-- and no number
abbrev pub NumberSuitsNot : Type 0
NumberSuitsNot = SuitsOpen skip_plan (Lit 0 1) → ⊥
