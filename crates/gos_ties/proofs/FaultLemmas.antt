-- A plan whose joints are right is refused for want of memory alone.
use Rattle.std.specs.Prelude.{◌≡◌}
use Rattle.std.proofs.Common.{refl}
use Rattle.gos_plan.specs.Plans.{IsRight}
use Rattle.gos_plan.specs.declared.fault.ObjectFault.{ObjectFault}
use Rattle.gos_plan.specs.declared.fault.ObjectFault.TheVariants as faults
use Rattle.gos_plan.specs.Faults.{IsFault}
use Rattle.gos_plan.specs.Seen.{SeenPlan, plan_of}
use Rattle.gos_plan.proofs.ObjectLemmas.{right_not_wrong}

pub no_fault : (s : SeenPlan) (e : ObjectFault) → IsRight (plan_of s) → IsFault s e → e ≡ faults.NoMemory
no_fault s (faults.Form at) right fault = absurd fault
no_fault s (faults.Joint index) right fault = absurd (right_not_wrong (plan_of s) index right fault)
no_fault s (faults.Limit at) right fault = absurd fault
no_fault s faults.NoMemory right fault = refl
