-- Small plans that are joined, or are plans of names, and one that is none.
--
-- Read first: Composed, Names; SmallPlans and SmallCalls of gos_plan.
use Rattle.std.specs.Prelude.{[], ◌∷◌, codes}
use Rattle.gos_types.specs.Types.{Com}
use Rattle.gos_model.specs.Typing.{Imported}
use Rattle.gos_plan.specs.Kinds.{Seq, Skip}
use Rattle.gos_plan.specs.Plans.{PartEnd, ResultEnd, Plan}
use Rattle.gos_plan.specs.SmallPlans.{same_of_skip}
use Rattle.gos_plan.specs.SmallCalls.{call_plan}
use Rattle.gos_realises.specs.realises.Regular.{IsRegular}
use Rattle.gos_realises.specs.realises.Links.{IsJoined}
use Rattle.gos_joining.specs.webs.Webs.{joint}
use Rattle.gos_supplies.specs.turns.Rests.{Rests}
use Rattle.gos_supplies.specs.turns.Names.{IsNamePlan}

-- `fun a : com . a` with its argument `skip` is regular
abbrev pub SameOfSkipIsRegular : Type 0
SameOfSkipIsRegular = (r : Plan) → IsJoined same_of_skip r → IsRegular r

abbrev pub called : Imported
called = record { name = codes "c"; ty = Com }

-- the plan of `import c : com; c` is that of a name
abbrev pub CallIsName : Type 0
CallIsName = IsNamePlan called call_plan

-- without its joint it isn't
abbrev pub UnjoinedIsNone : Type 0
UnjoinedIsNone = IsNamePlan called (record call_plan { joints = [] }) → ⊥

-- The plan of that call rests.
abbrev pub CallRests : Type 0
CallRests = Rests call_plan

-- A Seq whose first request goes where the request of the whole lies, to a Skip that answers the whole: the Seq waits on.
abbrev pub astray : Plan
astray =
    record {
      weight = 0;
      imports = [];
      outcome = Com;
      parts = Seq 0 ∷ Skip ∷ [];
      joints = joint (ResultEnd 0) (PartEnd 0 2) ∷ joint (ResultEnd 0) (PartEnd 0 0) ∷ joint (ResultEnd 0) (PartEnd 1 0) ∷ [];
    }

abbrev pub AstrayDoesNotRest : Type 0
AstrayDoesNotRest = Rests astray → ⊥
