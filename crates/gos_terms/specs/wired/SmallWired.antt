-- `import c : com; c` with the plan of `skip` for c, wired.
--
-- Read first: Modules; SmallPlans of gos_plan. They show that these definitions can be met and can be missed.
use Rattle.std.specs.Prelude.{[], ◌∷◌}
use Rattle.gos_types.specs.Types.{Com}
use Rattle.gos_model.specs.Terms as terms
use Rattle.gos_check.specs.Nodes.{Numbered, Closed, Use}
use Rattle.gos_plan.specs.Kinds.{Seq}
use Rattle.gos_plan.specs.SmallPlans.{skip_plan}
use Rattle.gos_compile.specs.Wiring.{Types, all_ties}
use Rattle.gos_terms.specs.wired.Wired.{Supplies, Placing, Supplied, IsWired}
use Rattle.gos_terms.specs.wired.Modules.{PathsFit}

-- all numbers have the type of a command, and the plan of `skip`
abbrev pub commands : Types
commands n = Com

abbrev pub skips : Supplies
skips n = record { plan = skip_plan; term = terms.Skip }

-- the node uses number 0
abbrev pub one_use : Numbered
one_use = Use Com [] 0

-- each part is one of the supply of number 0
abbrev pub from_first : Placing
from_first =
    record { own = λ k. k; supplied = λ n k. k; import = λ n k. k; source = λ k. Supplied 0 k; origin = λ k. record { number = 0; import = k } }

-- wired it is the plan of `skip`, and not that without its joint
abbrev pub UseIsWired : Type 0
UseIsWired = IsWired commands 0 0 one_use (0 ∷ []) skips from_first skip_plan

abbrev pub UnjoinedIsNotWired : Type 0
UnjoinedIsNotWired = IsWired commands 0 0 one_use (0 ∷ []) skips from_first (record skip_plan { joints = [] }) → ⊥

-- The ties of `skip` connect what fits in its plan, and not with a Seq in its Skip's place.
abbrev pub SkipFits : Type 0
SkipFits = PathsFit (all_ties [] (Closed Com [] terms.Skip)) skip_plan

abbrev pub SeqDoesNotFit : Type 0
SeqDoesNotFit = PathsFit (all_ties [] (Closed Com [] terms.Skip)) (record skip_plan { parts = Seq 0 ∷ [] }) → ⊥
