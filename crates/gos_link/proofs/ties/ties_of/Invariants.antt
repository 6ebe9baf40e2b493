use Rattle.std.proofs.Common.{◌≡◌, ◌+◌, ◌++◌, ◌<◌, ◌≤◌, ℕ, Some, length, map, drop}
use Rattle.std.specs.Prelude.{slice_get}
use Rattle.gos_plan.specs.Plans.{Plan, IsRight}
use Rattle.gos_plan.specs.Seen.{plan_of}
use Rattle.gos_plan.specs.Joining.{all_parts}
use Rattle.gos_link.specs.inner.Counts.{all_imports}
use Rattle.gos_link.specs.inner.Wired.{ties_from}
use Rattle.gos_link.proofs.ties.ties_of.Given as goal

-- with those of the plans that are left they are all, and the plans so far are right; the numbers so far are of plans so far
abbrev pub invariant-loop-number : goal.invariant-loop-number
invariant-loop-number l =
    (l.ties.items ++ ties_from l.services l.root l.number l.start l.stay (map plan_of (drop l.number l.plans))
    ≡ ties_from l.services l.root 0 0 0 (map plan_of l.plans))
    × ((n : ℕ) (p : Plan) → n < l.number → slice_get (map plan_of l.plans) n ≡ Some p → IsRight p)
    × (l.start + length (all_parts (map plan_of (drop l.number l.plans))) ≤ length (all_parts (map plan_of l.plans)))
    × (l.stay + all_imports (map plan_of (drop l.number l.plans)) ≤ all_imports (map plan_of l.plans))
