use Rattle.std.proofs.Common.{◌≡◌, ◌+◌, map, drop}
use Rattle.gos_plan.specs.Seen.{part_of}
use Rattle.gos_plan.specs.Size.{numbers_of}
use Rattle.gos_link.proofs.size.numbers_of.Given as goal

-- with those of the parts that are left they are all
abbrev pub invariant-loop-kind : goal.invariant-loop-kind
invariant-loop-kind l = l.numbers + numbers_of (map part_of (drop l.kind-index l.parts)) ≡ numbers_of (map part_of l.parts)
