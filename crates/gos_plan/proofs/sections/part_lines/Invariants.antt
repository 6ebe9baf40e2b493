use Rattle.std.proofs.Common.{All, map}
use Rattle.gos_plan.specs.Ranges.{IsInRange}
use Rattle.gos_plan.specs.Seen.{part_of}
use Rattle.gos_plan.specs.ObjectItems.{part_line}
use Rattle.gos_plan.proofs.TextLemmas.{SoFar}
use Rattle.gos_plan.proofs.sections.part_lines.Given as goal

abbrev pub invariant-loop-left : goal.invariant-loop-left
invariant-loop-left l = SoFar (part_line l.format) l.count l.initial.cursor l.cursor (map part_of l.parts.items) l.left × All IsInRange l.parts.items

abbrev pub decreases-loop-left : goal.decreases-loop-left
decreases-loop-left l = l.left
