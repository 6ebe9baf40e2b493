use Rattle.std.proofs.Common.{◌≡◌, ◌+◌, map, drop}
use Rattle.gos_plan.specs.Joining.{all_weight}
use Rattle.gos_plan.specs.Seen.{plan_of}
use Rattle.gos_link.proofs.joining.weight_of.Given as goal

-- with that of the plans that are left it is the whole
abbrev pub invariant-loop-plan : goal.invariant-loop-plan
invariant-loop-plan l = l.weight + all_weight (map plan_of (drop l.plan-index l.plans)) ≡ all_weight (map plan_of l.plans)
