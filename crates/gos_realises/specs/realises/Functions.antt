-- Functions: unfolding a head changes nothing that a plan could tell; and the plan of `fun a : com . a`.
--
-- Read first: Realises; Reach of gos_model; SmallPlans of gos_plan.
use Rattle.gos_types.specs.Types.{Com, Fun}
use Rattle.gos_model.specs.Terms.{Term, Bound, Lam}
use Rattle.gos_model.specs.Reach.{Rewrites}
use Rattle.gos_plan.specs.Plans.{Plan}
use Rattle.gos_plan.specs.SmallPlans.{same_plan}
use Rattle.gos_realises.specs.realises.Matched.{RealisesInTurn}
use Rattle.gos_realises.specs.realises.Realises.{Realises}

-- a plan realises a head, as a function with its argument, where it realises what the head unfolds to
abbrev pub HeadsAreRealised : Type 0
HeadsAreRealised = (p : Plan) (m n : Term) → Rewrites m n → RealisesInTurn p n → RealisesInTurn p m

-- The plan of `fun a : com . a` realises it: joined to any plan that realises an argument, it realises the application.
abbrev pub SameIsRealised : Type 0
SameIsRealised = Realises (Fun Com Com) same_plan (Lam Com (Bound 0))
