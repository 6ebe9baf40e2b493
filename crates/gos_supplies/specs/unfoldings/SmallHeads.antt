-- Small heads: what unfolds at its head, and what doesn't.
--
-- Read first: Heads; SmallPlans of gos_plan.
use Rattle.gos_types.specs.Types.{Com}
use Rattle.gos_model.specs.Terms.{Term, Skip, Bound, Lam, App, Both, Fst, Seq}
use Rattle.gos_plan.specs.SmallPlans.{skip_plan}
use Rattle.gos_realises.specs.realises.Realises.{Realises}
use Rattle.gos_supplies.specs.unfoldings.Heads.{UnfoldsHead}

-- `fun a : com . a`, and its use
abbrev pub same : Term
same = Lam Com (Bound 0)

abbrev pub same_of_skip : Term
same_of_skip = App same Skip

-- the use is a head
abbrev pub ArgumentUnfolds : Type 0
ArgumentUnfolds = UnfoldsHead same_of_skip Skip

-- and so is a side of a pair that stands below an application
abbrev pub BelowUnfolds : Type 0
BelowUnfolds = UnfoldsHead (App (Fst (Both same Skip)) Skip) same_of_skip

-- a function without an argument is none
abbrev pub FunctionIsNoHead : Type 0
FunctionIsNoHead = (n : Term) → UnfoldsHead same n → ⊥

-- neither is a sequence with a head inside
abbrev pub InsideIsNoHead : Type 0
InsideIsNoHead = (n : Term) → UnfoldsHead (Seq same_of_skip Skip) n → ⊥

-- the plan of `skip` realises the use as well
abbrev pub UnfoldedIsRealised : Type 0
UnfoldedIsRealised = Realises Com skip_plan same_of_skip
