use Rattle.std.proofs.Common.{◌≡◌, ◌++◌, All, map, drop}
use Rattle.gos_plan.specs.Joining.{all_parts}
use Rattle.gos_plan.specs.Seen.{part_of, plan_of}
use Rattle.gos_plan.specs.Ranges.{IsInRange}
use Rattle.gos_link.proofs.joining.parts_of.Given as goal

-- with those of the plans that are left they are all
abbrev pub invariant-loop-plan : goal.invariant-loop-plan
invariant-loop-plan l =
    (map part_of l.parts.items ++ all_parts (map plan_of (drop l.plan-index l.plans)) ≡ all_parts (map plan_of l.plans))
    × All IsInRange l.parts.items
