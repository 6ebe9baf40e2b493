-- What is known of the objects that were read, while others are still to be read.
use Rattle.std.specs.Prelude.{ℕ, List, ◌++◌, Option, IfSome}
use Rattle.gos_outside.specs.Files.{Files}
use Rattle.gos_outside.specs.Faults.{LastFault}
use Rattle.gos_plan.specs.Seen.{SeenPlan}
use Rattle.gos_link.specs.declared.build.Instance.{Instance}
use Rattle.gos_command.specs.declared.status.Fault.{Fault}
use Rattle.gos_tool.specs.circuits.Objects.{HoldPlans, RejectsObject, IsObjectCall}

-- The objects of the instances before `rest` hold these plans: whatever the rest does, all do with these before it.
pub record AreReadBefore (old : Option Files) (all rest : List Instance) (plans : List SeenPlan) : Type 0 where
  pub held : (more : List SeenPlan) → IfSome old (λ files. HoldPlans files rest more) → IfSome old (λ files. HoldPlans files all (plans ++ more))
  pub rejected :
      (fault : Fault) (line : List ℕ) → IfSome old (λ files. RejectsObject files rest fault line)
      → IfSome old (λ files. RejectsObject files all fault line)
  pub call : (fault : LastFault) → IsObjectCall old rest fault → IsObjectCall old all fault
