-- A small plan beside a loose part.
--
-- Read first: Beside, Homes; SmallPlans of gos_plan. It shows that the definitions can be met and can be missed.
use Rattle.std.specs.Prelude.{ℕ, zero, suc, [], ◌∷◌, Option, Some, None}
use Rattle.gos_plan.specs.Kinds.{Skip}
use Rattle.gos_plan.specs.Plans.{PartEnd, ImportEnd, ResultEnd, Plan}
use Rattle.gos_plan.specs.SmallPlans.{skip_plan}
use Rattle.gos_joining.specs.webs.Webs.{Dot, Of, Number, Node, Within, joint, own_web}
use Rattle.gos_supplies.specs.unjoined.Beside.{Placing, IsBeside}
use Rattle.gos_supplies.specs.unjoined.Homes.{IsHome}

-- the first part alone is the plan's, and it has no imports
abbrev pub first_alone : ℕ → Option ℕ
first_alone zero = Some zero
first_alone (suc n) = None

abbrev pub first_part : Placing
first_part = record { part = λ i. i; number = first_alone; import = λ i. i; import_number = λ i. None }

-- the plan of `skip` with another Skip, which nothing asks
abbrev pub skip_and_loose : Plan
skip_and_loose = record skip_plan { parts = Skip ∷ Skip ∷ [] }

abbrev pub SkipIsBeside : Type 0
SkipIsBeside = IsBeside first_part skip_and_loose skip_plan

-- joined to the result it is not loose
abbrev pub other_skip : Plan
other_skip = record skip_and_loose { joints = joint (ResultEnd 0) (PartEnd 1 0) ∷ [] }

abbrev pub JoinedIsNotBeside : Type 0
JoinedIsNotBeside = IsBeside first_part other_skip skip_plan → ⊥

-- The loose Skip is at no point of the web of the plan of `skip`.
abbrev pub home_of_first : Dot → Option Dot
home_of_first (Of (PartEnd zero h)) = Some (Of (PartEnd zero h))
home_of_first (Of (PartEnd (suc i) h)) = None
home_of_first (Of (ImportEnd i h)) = None
home_of_first (Of (ResultEnd h)) = Some (Of (ResultEnd h))
home_of_first (Number n h) = None
home_of_first (Node n h) = None
home_of_first (Within k d) = None

abbrev pub SkipIsHome : Type 0
SkipIsHome = IsHome home_of_first first_part (own_web skip_and_loose) (own_web skip_plan) skip_and_loose skip_plan

-- where it is joined to the result a tie leads out
abbrev pub OtherIsNotHome : Type 0
OtherIsNotHome = IsHome home_of_first first_part (own_web other_skip) (own_web skip_plan) other_skip skip_plan → ⊥
