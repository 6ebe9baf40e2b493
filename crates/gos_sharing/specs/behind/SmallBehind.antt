-- The plan of `fun a : com . a` behind a Share.
--
-- Read first: Behind; SmallPlans of gos_plan. It shows that the definitions can be met and can be missed.
use Rattle.std.specs.Prelude.{◌≡◌, [], ◌∷◌}
use Rattle.gos_types.specs.Types.{Com, Fun}
use Rattle.gos_plan.specs.Kinds.{Share}
use Rattle.gos_plan.specs.Plans.{PartEnd, ResultEnd, Plan}
use Rattle.gos_plan.specs.SmallPlans.{same_plan}
use Rattle.gos_realises.specs.realises.Regular.{IsRegular}
use Rattle.gos_joining.specs.webs.Webs.{joint}
use Rattle.gos_sharing.specs.behind.Behind.{passing, IsBehind}

-- its Share is joined to itself: at the source what the result asks is what the argument serves
abbrev pub shared_same : Plan
shared_same =
    record same_plan {
      parts = Share (Fun Com Com) ∷ [];
      joints = joint (PartEnd 0 1) (PartEnd 0 0) ∷ joint (PartEnd 0 2) (ResultEnd 0) ∷ joint (ResultEnd 1) (PartEnd 0 3) ∷ [];
    }

abbrev pub SharedIs : Type 0
SharedIs = shared_same ≡ passing (Fun Com Com) 0 same_plan

-- it lies behind the first caller, and is regular
abbrev pub FirstIsBehind : Type 0
FirstIsBehind = IsBehind 0 (Fun Com Com) 0 shared_same same_plan

abbrev pub FirstIsRegular : Type 0
FirstIsRegular = IsRegular shared_same

-- and not behind the second
abbrev pub SecondIsNot : Type 0
SecondIsNot = IsBehind 0 (Fun Com Com) 1 shared_same same_plan → ⊥

-- nor does it lie there with the caller's joints the other way round
abbrev pub reversed_same : Plan
reversed_same =
    record shared_same {
      joints = joint (PartEnd 0 1) (PartEnd 0 0) ∷ joint (ResultEnd 0) (PartEnd 0 2) ∷ joint (PartEnd 0 3) (ResultEnd 1) ∷ [];
    }

abbrev pub ReversedIsNot : Type 0
ReversedIsNot = IsBehind 0 (Fun Com Com) 0 reversed_same same_plan → ⊥
