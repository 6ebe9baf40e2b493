use Rattle.std.proofs.Common.{◌≡◌, ◌++◌, take, map}
use Rattle.gos_plan.specs.Seen.{end_of, part_of}
use Rattle.gos_expand.specs.Starts.{part_ends}
use Rattle.gos_expand.proofs.places.add_parts.Given as goal

-- the ends of the parts so far
abbrev pub invariant-loop-index : goal.invariant-loop-index
invariant-loop-index l =
    map end_of l.ends.items ≡ map end_of l.initial.ends.items ++ part_ends 0 (take l.index (map part_of l.plan.parts))
