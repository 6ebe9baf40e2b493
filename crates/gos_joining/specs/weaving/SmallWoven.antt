-- Small webs: a Skip by way of a number, and two Skips that one number meets.
--
-- Read first: Woven; SmallPlans of gos_plan. They show that these definitions can be met and can be missed.
use Rattle.std.specs.Prelude.{List, [], ◌∷◌}
use Rattle.gos_types.specs.Types.{Com}
use Rattle.gos_plan.specs.Kinds.{Skip}
use Rattle.gos_plan.specs.Plans.{PartEnd, ResultEnd, Joint, Plan}
use Rattle.gos_plan.specs.SmallPlans.{skip_plan}
use Rattle.gos_joining.specs.webs.Webs.{Of, Number, tie, Web, IsOfWeb}
use Rattle.gos_joining.specs.weaving.Woven.{IsPlain, IsThin}

-- the result meets a number, and that a Skip
abbrev pub numbered_web : Web
numbered_web = record { ties = tie (Of (ResultEnd 0)) (Number 0 0) ∷ tie (Number 0 0) (Of (PartEnd 0 0)) ∷ []; at = Of }

-- a second Skip meets the number too
abbrev pub forked_web : Web
forked_web = record numbered_web { ties = tie (Number 0 0) (Of (PartEnd 1 0)) ∷ numbered_web.ties }

abbrev pub two_skips : Plan
two_skips = record { weight = 0; imports = []; outcome = Com; parts = Skip ∷ Skip ∷ []; joints = [] }

-- the first is thin, and so plain
abbrev pub NumberedIsThin : Type 0
NumberedIsThin = IsThin numbered_web skip_plan

abbrev pub NumberedIsPlain : Type 0
NumberedIsPlain = IsPlain numbered_web skip_plan

-- the second isn't, and has no plan
abbrev pub ForkedIsNotThin : Type 0
ForkedIsNotThin = IsThin forked_web two_skips → ⊥

abbrev pub ForkedIsNotPlain : Type 0
ForkedIsNotPlain = IsPlain forked_web two_skips → ⊥

abbrev pub ForkedHasNoPlan : Type 0
ForkedHasNoPlan = (js : List Joint) → IsOfWeb forked_web (record two_skips { joints = js }) → ⊥
