-- The plan of the name of an array's import realises the name at its type.
--
-- Read first: Realises of gos_realises; Names of turns. Joined to the plan of any index it is read and written as the array is.
use Rattle.std.specs.Prelude.{ℕ, [], ◌∷◌}
use Rattle.gos_types.specs.Types.{Exp, Var, Fun}
use Rattle.gos_types.specs.Widths.{IsWidth}
use Rattle.gos_model.specs.Terms.{Name, Import}
use Rattle.gos_plan.specs.Plans.{ImportEnd, ResultEnd, Plan}
use Rattle.gos_realises.specs.realises.Realises.{Realises}
use Rattle.gos_realises.specs.realises.Modules.{RealisesOpen}
use Rattle.gos_joining.specs.webs.Webs.{joint}
use Rattle.gos_supplies.specs.names.Names.{imported}
use Rattle.gos_supplies.specs.turns.Names.{IsNamePlan}

-- x has indices of i bits and numbers of w bits: it asks the result for the index, and the result asks it to read and to write
abbrev pub array_name : Name → (i w : ℕ) → Plan
array_name x i w =
    record {
      weight = 0;
      imports = imported x (Fun (Exp i) (Var w)) ∷ [];
      outcome = Fun (Exp i) (Var w);
      parts = [];
      joints =
          joint (ImportEnd 0 0) (ResultEnd 0) ∷ joint (ResultEnd 1) (ImportEnd 0 1) ∷ joint (ResultEnd 2) (ImportEnd 0 2) ∷ [];
    }

abbrev pub ArrayNameIsName : Type 0
ArrayNameIsName = (x : Name) (i w : ℕ) → IsNamePlan (imported x (Fun (Exp i) (Var w))) (array_name x i w)

abbrev pub ArrayNameIsRealised : Type 0
ArrayNameIsRealised = (x : Name) (i w : ℕ) → IsWidth w → Realises (Fun (Exp i) (Var w)) (array_name x i w) (Import x)

-- and with whatever stands for the array: joined to it, the plan is that
abbrev pub ArrayNameIsOpen : Type 0
ArrayNameIsOpen = (x : Name) (i w : ℕ) → RealisesOpen (array_name x i w) (Import x)
