-- Small cores: the plan of `skip` with parts that nobody asks, and a plan whose dead joint is reached.
--
-- Read first: Core; SmallPlans of gos_plan. They show that the definitions can be met and can be missed.
use Rattle.std.specs.Prelude.{ℕ, zero, suc, [], ◌∷◌, Option, Some, None}
use Rattle.gos_plan.specs.Kinds.{Skip, Par}
use Rattle.gos_plan.specs.Plans.{PartEnd, ResultEnd, Plan}
use Rattle.gos_plan.specs.SmallPlans.{skip_plan}
use Rattle.gos_joining.specs.webs.Webs.{joint}
use Rattle.gos_sharing.specs.cores.Core.{Core, IsCore, IsStill}

-- the first part alone is the core's, and it has no imports
abbrev pub first_alone : ℕ → Option ℕ
first_alone zero = Some zero
first_alone (suc n) = None

abbrev pub first_part : Core
first_part = record { part = λ i. i; number = first_alone; import = λ i. i; origin = λ i. None }

-- the plan of `skip` with another Skip, which is joined to a part that nobody asks
abbrev pub skip_and_others : Plan
skip_and_others =
    record skip_plan { parts = Skip ∷ Skip ∷ Par ∷ []; joints = joint (ResultEnd 0) (PartEnd 0 0) ∷ joint (PartEnd 2 0) (PartEnd 1 0) ∷ [] }

abbrev pub SkipIsCore : Type 0
SkipIsCore = IsCore first_part skip_and_others skip_plan × IsStill first_part skip_and_others skip_plan

-- The plan without the first joint is a core of the plan of `skip`, which is not still over it: a request comes to the joint.
abbrev pub bare : Plan
bare = record skip_plan { joints = [] }

abbrev pub BareIsCore : Type 0
BareIsCore = IsCore first_part skip_plan bare

abbrev pub ReachedIsNotStill : Type 0
ReachedIsNotStill = IsStill first_part skip_plan bare → ⊥

-- Where the core's own joint is not the plan's it is no core.
abbrev pub other_skip : Plan
other_skip = record skip_and_others { joints = joint (ResultEnd 0) (PartEnd 1 0) ∷ [] }

abbrev pub OtherIsNoCore : Type 0
OtherIsNoCore = IsCore first_part other_skip skip_plan → ⊥
