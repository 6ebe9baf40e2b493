use Rattle.std.proofs.Common.{◌≡◌, ◌++◌, All, map, take}
use Rattle.gos_plan.specs.Seen.{part_of}
use Rattle.gos_plan.specs.Ranges.{IsInRange}
use Rattle.gos_link.proofs.joining.add_parts.Given as goal

-- copies of the parts so far
abbrev pub invariant-loop-kind : goal.invariant-loop-kind
invariant-loop-kind l =
    (map part_of l.parts.items ≡ map part_of l.initial.parts.items ++ map part_of (take l.kind-index l.more))
    × (All IsInRange l.initial.parts.items → All IsInRange l.more → All IsInRange l.parts.items)
