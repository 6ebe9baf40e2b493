-- A small function and its body.
--
-- Read first: Opened; SmallPlans of gos_plan. It shows that the definition can be met and can be missed.
use Rattle.std.specs.Prelude.{[], ◌∷◌, codes}
use Rattle.gos_types.specs.Types.{Com}
use Rattle.gos_model.specs.Typing.{Imported}
use Rattle.gos_plan.specs.Plans.{ImportEnd, ResultEnd, Plan}
use Rattle.gos_plan.specs.SmallPlans.{same_plan}
use Rattle.gos_joining.specs.webs.Webs.{joint}
use Rattle.gos_supplies.specs.applications.Opened.{IsFunctionOf}

-- the plan of a name of a command
abbrev pub named : Imported
named = record { name = codes "a"; ty = Com }

abbrev pub name_plan : Plan
name_plan = record { weight = 5; imports = named ∷ []; outcome = Com; parts = []; joints = joint (ResultEnd 0) (ImportEnd 0 0) ∷ [] }

-- is the body of `fun a . a`
abbrev pub SameIsFunction : Type 0
SameIsFunction = IsFunctionOf named same_plan name_plan

-- without its joint it isn't
abbrev pub UnjoinedIsNoBody : Type 0
UnjoinedIsNoBody = IsFunctionOf named same_plan (record name_plan { joints = [] }) → ⊥
