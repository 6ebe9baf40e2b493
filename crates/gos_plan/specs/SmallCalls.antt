-- The plan of `import c : com; c`, which has a joint and no part: an orderly list of it, and one that is not.
--
-- Read first: SmallPlans. It is run twice.
use Rattle.std.specs.Prelude.{List, [], ◌∷◌, codes}
use Rattle.gos_types.specs.Types.{Com}
use Rattle.gos_plan.specs.Plans.{ImportEnd, ResultEnd, Plan}
use Rattle.gos_plan.specs.Tokens.{Element, Out, In}
use Rattle.gos_plan.specs.Orderly.{IsOrderly}
use Rattle.gos_plan.specs.SmallPlans.{at_first}

-- the result asks the import
abbrev pub call_plan : Plan
call_plan =
    record {
      weight = 6;
      imports = record { name = codes "c"; ty = Com } ∷ [];
      outcome = Com;
      parts = [];
      joints = record { asking = ResultEnd 0; serving = ImportEnd 0 0 } ∷ [];
    }

-- the same as one list
abbrev pub called_twice : List Element
called_twice =
    In (ResultEnd 0) 0
    ∷ Out (ImportEnd 0 0) 0
    ∷ In (ImportEnd 0 0) 0
    ∷ Out (ResultEnd 0) 0
    ∷ In (ResultEnd 0) 0
    ∷ Out (ImportEnd 0 0) 0 ∷ []

-- it is orderly
abbrev pub CallRunsInOrder : Type 0
CallRunsInOrder = IsOrderly call_plan called_twice at_first

-- c.done where c was not run is not
abbrev pub UnaskedIsNoOrder : Type 0
UnaskedIsNoOrder = IsOrderly call_plan (In (ImportEnd 0 0) 0 ∷ []) at_first → ⊥
