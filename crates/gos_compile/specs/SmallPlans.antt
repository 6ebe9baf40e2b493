-- Small modules and their plans.
--
-- Read first: Wiring.
use Rattle.std.specs.Prelude.{List, [], ◌∷◌, codes}
use Rattle.gos_types.specs.Types.{Com, Fun}
use Rattle.gos_model.specs.Terms as terms
use Rattle.gos_model.specs.Typing.{Imported}
use Rattle.gos_check.specs.Nodes.{Numbered, Closed, Use, Under, Two, OfFun, OfArray, OfSeq}
use Rattle.gos_plan.specs.Kinds.{Skip, Seq, Array}
use Rattle.gos_plan.specs.Plans.{PartEnd, ImportEnd, ResultEnd, Plan}
use Rattle.gos_ties.specs.Ties.{joint}
use Rattle.gos_compile.specs.Wiring.{IsPlanOf}
use Rattle.gos_compile.specs.Shells.{shell_of}

-- the plan of `skip`
abbrev pub skip_plan : Plan
skip_plan =
    record { weight = 5; imports = []; outcome = Com; parts = Skip ∷ []; joints = joint (ResultEnd 0) (PartEnd 0 0) ∷ [] }

abbrev pub SkipIsPlanned : Type 0
SkipIsPlanned = IsPlanOf [] Com 5 (Closed Com [] terms.Skip) skip_plan

-- `fun a : com . a`, and its plan: the outcome's handshake asks at the argument's
abbrev pub same_term : Numbered
same_term = Under (Fun Com Com) [] OfFun 0 (Use Com [] 0)

abbrev pub same_plan : Plan
same_plan =
    record { weight = 11; imports = []; outcome = Fun Com Com; parts = []; joints = joint (ResultEnd 1) (ResultEnd 0) ∷ [] }

abbrev pub SameIsPlanned : Type 0
SameIsPlanned = IsPlanOf [] (Fun Com Com) 11 same_term same_plan

-- `new a[2] : 8 in skip`, and its plan: the block is asked at the array's last handshake, and the array asks the body at
-- its first. It asks for no index, and serves no access.
abbrev pub array_term : Numbered
array_term = Under Com [] (OfArray 2 8) 0 (Closed Com [] terms.Skip)

abbrev pub array_plan : Plan
array_plan =
    record {
      weight = 12;
      imports = [];
      outcome = Com;
      parts = Array 8 2 0 ∷ Skip ∷ [];
      joints = joint (ResultEnd 0) (PartEnd 0 4) ∷ joint (PartEnd 0 0) (PartEnd 1 0) ∷ [];
    }

abbrev pub ArrayIsPlanned : Type 0
ArrayIsPlanned = IsPlanOf [] Com 12 array_term array_plan

-- an array of another length is not its part
abbrev pub OtherLengthIsNotPlanned : Type 0
OtherLengthIsNotPlanned = IsPlanOf [] Com 12 array_term (record array_plan { parts = Array 8 4 0 ∷ Skip ∷ [] }) → ⊥

-- `import c : com; import d : com; c ; d`, and its plan
abbrev pub two_imports : List Imported
two_imports = record { name = codes "c"; ty = Com } ∷ record { name = codes "d"; ty = Com } ∷ []

abbrev pub both_term : Numbered
both_term = Two Com [] OfSeq (Use Com [] 0) (Use Com [] 1)

abbrev pub both_plan : Plan
both_plan =
    record {
      weight = 17;
      imports = two_imports;
      outcome = Com;
      parts = Seq 0 ∷ [];
      joints = joint (ResultEnd 0) (PartEnd 0 2) ∷ joint (PartEnd 0 0) (ImportEnd 0 0) ∷ joint (PartEnd 0 1) (ImportEnd 1 0) ∷ [];
    }

abbrev pub BothIsPlanned : Type 0
BothIsPlanned = IsPlanOf two_imports Com 17 both_term both_plan

-- the same joints in another order are not its plan: the result's end stands in the first tie of the term
abbrev pub both_turned : Plan
both_turned =
    record both_plan {
      joints = joint (PartEnd 0 0) (ImportEnd 0 0) ∷ joint (ResultEnd 0) (PartEnd 0 2) ∷ joint (PartEnd 0 1) (ImportEnd 1 0) ∷ [];
    }

abbrev pub TurnedIsNotPlanned : Type 0
TurnedIsNotPlanned = IsPlanOf two_imports Com 17 both_term both_turned → ⊥

-- nor is the module's shell
abbrev pub ShellIsNotPlanned : Type 0
ShellIsNotPlanned = IsPlanOf two_imports Com 17 both_term (shell_of two_imports Com) → ⊥
