-- The sources of a build's instances, and the objects that are written of them.
--
-- Read first: BuildFile of gos_link (instances); Checked and Compiled of objects. `files` are those that the store held when the
-- command began; the sources are as in these, since no source is written. `new` are those that it leaves.
use Rattle.std.specs.Prelude.{◌≡◌, ◌⊎◌, ℕ, List, [], ◌∷◌, map, length, slice_get, Option, Some, IfSome}
use Rattle.gos_outside.specs.Files.{Files, bytes_at, with_file, SameBut}
use Rattle.gos_outside.specs.Faults.{LastFault, ReadFault, WriteFault}
use Rattle.gos_lex.specs.Lines.{Word}
use Rattle.gos_syntax.specs.Modules.{SeenModule}
use Rattle.gos_plan.specs.ObjectText.{text_of}
use Rattle.gos_plan.specs.Seen.{SeenPlan, plan_of}
use Rattle.gos_link.specs.declared.build.Instance.{Instance}
use Rattle.gos_command.specs.declared.status.Fault.{Fault}
use Rattle.gos_tool.specs.objects.Checked.{SaysModule, IsSourceFault}
use Rattle.gos_tool.specs.objects.Compiled.{IsPlanOfModule}

-- the sources of the first instances say these modules, one each
abbrev pub BeginWith : Files → List Instance → List SeenModule → Type 0
BeginWith files is [] = Unit {0}
BeginWith files [] (m ∷ ms) = ⊥
BeginWith files (i ∷ is) (m ∷ ms) = SaysModule (bytes_at files i.source) m × BeginWith files is ms

-- the plans of modules, one each
abbrev pub HavePlans : List SeenModule → List SeenPlan → Type 0
HavePlans [] [] = Unit {0}
HavePlans [] (p ∷ ps) = ⊥
HavePlans (m ∷ ms) [] = ⊥
HavePlans (m ∷ ms) (p ∷ ps) = IsPlanOfModule m (plan_of p) × HavePlans ms ps

-- the object files of instances
abbrev pub objects_of : List Instance → List Word
objects_of is = map (λ i. i.object) is

-- the files with the texts of these plans written, as the objects of the first instances
abbrev pub with_objects : Option Files → List Instance → List SeenPlan → Option Files
with_objects old is [] = old
with_objects old [] (p ∷ ps) = old
with_objects old (i ∷ is) (p ∷ ps) = with_objects (with_file i.object (text_of (plan_of p)) old) is ps

-- the sources of the first instances say these modules, these are their plans, and their objects were written
pub record AreWritten (files : Files) (new : Option Files) (is : List Instance) (ms : List SeenModule) (ps : List SeenPlan) : Type 0 where
  pub say : BeginWith files is ms
  pub plans : HavePlans ms ps
  pub wrote : new ≡ with_objects (Some files) is ps

-- this is so for all instances
pub record AllWritten (files : Files) (new : Option Files) (is : List Instance) (ps : List SeenPlan) : Type 0 where
  pub modules : List SeenModule
  pub written : AreWritten files new is modules ps
  pub all : length modules ≡ length is

-- this is so for some of the first instances
pub record SomeWritten (files : Files) (new : Option Files) (is : List Instance) : Type 0 where
  pub modules : List SeenModule
  pub plans : List SeenPlan
  pub written : AreWritten files new is modules plans

-- the first source that is rejected: the objects of the instances before it, and no others, were written
pub record RejectsModule (files : Files) (new : Option Files) (is : List Instance) (fault : Fault) (line : List ℕ) : Type 0 where
  pub before : SomeWritten files new is
  pub instance : Instance
  pub at : slice_get is (length before.plans) ≡ Some instance
  pub why : IsSourceFault files instance.source fault line

-- A call for an instance: its source is read, and its object is written where this says a module that is accepted. A file whose
-- write fails may hold anything.
abbrev pub IsInstanceCall : Option Files → Option Files → Instance → Type 0 → LastFault → Type 0
IsInstanceCall old new i Accepted fault =
    ((fault ≡ ReadFault i.source) × (new ≡ old)) ⊎ ((fault ≡ WriteFault i.object) × SameBut i.object old new × Accepted)

-- the objects of so many of the first instances were written, and no others
abbrev pub AreFirstWritten : Files → Option Files → List Instance → ℕ → Type 0
AreFirstWritten files new is number = (some : SomeWritten files new is) × (length some.plans ≡ number)

-- the calls for the instances, each with the objects written of those before it
pub record IsModuleCall (old new : Option Files) (is : List Instance) (fault : LastFault) : Type 0 where
  pub number : ℕ
  pub between : Option Files
  pub instance : Instance
  pub at : slice_get is number ≡ Some instance
  pub before : IfSome old (λ files. AreFirstWritten files between is number)
  pub call : IsInstanceCall between new instance (IfSome old (λ files. (m : SeenModule) × SaysModule (bytes_at files instance.source) m)) fault
