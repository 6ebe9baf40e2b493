-- What is known of a build before its ports are judged, and of the size of a plan.
use Rattle.std.specs.Prelude.{◌≡◌, ◌<◌, ◌⊎◌, ℕ, List, length}
use Rattle.gos_plan.specs.Seen.{SeenPlan}
use Rattle.gos_plan.specs.Plans.{Plan}
use Rattle.gos_plan.specs.Size.{plan_size}
use Rattle.gos_link.specs.declared.build.Build.{Build}
use Rattle.gos_link.specs.declared.services.Service.{Service}
use Rattle.gos_link.specs.declared.fault.LinkFault.{LinkFault}
use Rattle.gos_link.specs.declared.fault.LinkFault.TheVariants as faults
use Rattle.gos_link.specs.Linked.{IsPlaced, count_ports, plans_of}
use Rattle.gos_link.specs.inner.Wired.{AreJoinable}

-- there is a plan for each instance, all have their places, and the plans may be joined along the services
pub record IsJudged (b : Build) (ps : List SeenPlan) (ss : List Service) (root : ℕ) : Type 0 where
  pub each : length ps ≡ length b.instances.items
  pub placed : IsPlaced b ss root
  pub joinable : AreJoinable (plans_of ps) ss root

-- the plan is too large, and the fault tells its size and the number of its ports
abbrev pub IsTooLarge : Plan → LinkFault → Type 0
IsTooLarge p fault =
    (fault ≡ faults.TooLarge (plan_size p) (count_ports p)) × ((5000000 < plan_size p) ⊎ (65536 < count_ports p))
