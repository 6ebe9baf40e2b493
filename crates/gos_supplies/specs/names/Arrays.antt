-- The plans that read an array's import at a number, and write it there, realise that read and that write.
--
-- Read first: Matched of gos_realises; ArrayPorts of gos_model. The array may ask for its index as often as it likes, or never.
use Rattle.std.specs.Prelude.{ℕ, ◌^◌, ◌<◌, [], ◌∷◌}
use Rattle.gos_types.specs.Types.{Com, Exp, Var, Fun}
use Rattle.gos_types.specs.Widths.{IsWidth}
use Rattle.gos_model.specs.Terms.{Name, Import, App, Assign, Deref, Lit}
use Rattle.gos_plan.specs.Kinds as kinds
use Rattle.gos_plan.specs.Plans.{PartEnd, ImportEnd, ResultEnd, Plan}
use Rattle.gos_realises.specs.realises.Regular.{IsRegular}
use Rattle.gos_realises.specs.realises.Matched.{RealisesInTurn}
use Rattle.gos_realises.specs.realises.Realises.{Realises}
use Rattle.gos_joining.specs.webs.Webs.{joint}
use Rattle.gos_supplies.specs.names.Names.{imported}

-- x has indices of i bits and numbers of w bits, and is read at k
abbrev pub array_read : Name → (i w k : ℕ) → Plan
array_read x i w k =
    record {
      weight = 0;
      imports = imported x (Fun (Exp i) (Var w)) ∷ [];
      outcome = Exp w;
      parts = kinds.Deref w ∷ kinds.Lit i k ∷ [];
      joints = joint (ResultEnd 0) (PartEnd 0 1) ∷ joint (PartEnd 0 0) (ImportEnd 0 1) ∷ joint (ImportEnd 0 0) (PartEnd 1 0) ∷ [];
    }

abbrev pub ReadIsRealised : Type 0
ReadIsRealised = (x : Name) (i w k : ℕ) → IsRegular (array_read x i w k) × RealisesInTurn (array_read x i w k) (Deref (App (Import x) (Lit k i)))

-- where the number is an index it realises the read by its type
abbrev pub ReadIsRealisedByType : Type 0
ReadIsRealisedByType = (x : Name) (i w k : ℕ) → IsWidth i → k < 2 ^ i → Realises (Exp w) (array_read x i w k) (Deref (App (Import x) (Lit k i)))

-- the same array is written at k with m
abbrev pub array_write : Name → (i w k m : ℕ) → Plan
array_write x i w k m =
    record {
      weight = 0;
      imports = imported x (Fun (Exp i) (Var w)) ∷ [];
      outcome = Com;
      parts = kinds.Assign w ∷ kinds.Lit w m ∷ kinds.Lit i k ∷ [];
      joints =
          joint (ResultEnd 0) (PartEnd 0 2) ∷ joint (PartEnd 0 0) (PartEnd 1 0)
          ∷ joint (PartEnd 0 1) (ImportEnd 0 2) ∷ joint (ImportEnd 0 0) (PartEnd 2 0) ∷ [];
    }

abbrev pub WriteIsRealised : Type 0
WriteIsRealised =
    (x : Name) (i w k m : ℕ)
    → IsRegular (array_write x i w k m) × RealisesInTurn (array_write x i w k m) (Assign (App (Import x) (Lit k i)) (Lit m w))

-- where the numbers fit their widths it realises the write by its type
abbrev pub WriteIsRealisedByType : Type 0
WriteIsRealisedByType =
    (x : Name) (i w k m : ℕ)
    → IsWidth i → k < 2 ^ i → IsWidth w → m < 2 ^ w → Realises Com (array_write x i w k m) (Assign (App (Import x) (Lit k i)) (Lit m w))
