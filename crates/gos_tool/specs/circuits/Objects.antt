-- The object files of instances.
--
-- Read first: BuildFile of gos_link (instances); ObjectFaults of gos_plan (which texts are read as a plan, and why the others
-- are not). A file that the store doesn't hold counts as empty.
use Rattle.std.specs.Prelude.{◌≡◌, ◌≢◌, ◌⊎◌, ℕ, List, [], ◌∷◌, Option, None, IfSome}
use Rattle.gos_outside.specs.Files.{Files, bytes_at}
use Rattle.gos_outside.specs.Faults.{LastFault, ReadFault}
use Rattle.gos_lex.specs.Lines.{Word}
use Rattle.gos_plan.specs.Seen.{SeenPlan, plan_of}
use Rattle.gos_plan.specs.ObjectFaults.{IsRead, HasFault}
use Rattle.gos_plan.specs.declared.fault.ObjectFault.TheVariants as objects
use Rattle.gos_link.specs.declared.build.Instance.{Instance}
use Rattle.gos_command.specs.Lines.{fault_line}
use Rattle.gos_command.specs.declared.status.Cause.{Cause}
use Rattle.gos_command.specs.declared.status.Cause.TheVariants as causes
use Rattle.gos_command.specs.declared.status.Fault.{Fault}

-- the object file of the instance holds the text of this plan
abbrev pub HoldsPlan : Files → Instance → SeenPlan → Type 0
HoldsPlan files i p = IsRead (bytes_at files i.object) (plan_of p)

-- the object files of the instances hold the texts of these plans, one each
abbrev pub HoldPlans : Files → List Instance → List SeenPlan → Type 0
HoldPlans files [] [] = Unit {0}
HoldPlans files [] (p ∷ ps) = ⊥
HoldPlans files (i ∷ is) [] = ⊥
HoldPlans files (i ∷ is) (p ∷ ps) = HoldsPlan files i p × HoldPlans files is ps

-- Why an object file is rejected: its text is none of a plan.
abbrev pub IsObjectCause : List ℕ → Cause → Type 0
IsObjectCause text (causes.Object fault) = (fault ≢ objects.NoMemory) × HasFault text fault
IsObjectCause text cause = ⊥

-- the object file is rejected so, with this line
pub record IsObjectFault (files : Files) (object : Word) (fault : Fault) (line : List ℕ) : Type 0 where
  pub file : fault.file ≡ object
  pub cause : IsObjectCause (bytes_at files object) fault.cause
  pub says : line ≡ fault_line None fault

-- the first object file that is rejected: those before it hold texts of plans
abbrev pub RejectsObject : Files → List Instance → Fault → List ℕ → Type 0
RejectsObject files [] fault line = ⊥
RejectsObject files (i ∷ is) fault line =
    IsObjectFault files i.object fault line ⊎ ((p : SeenPlan) × HoldsPlan files i p × RejectsObject files is fault line)

-- an object file is read, where those before it hold texts of plans
abbrev pub IsObjectCall : Option Files → List Instance → LastFault → Type 0
IsObjectCall old [] fault = ⊥
IsObjectCall old (i ∷ is) fault =
    (fault ≡ ReadFault i.object) ⊎ ((p : SeenPlan) × IfSome old (λ files. HoldsPlan files i p) × IsObjectCall old is fault)
