use Rattle.std.proofs.Common.{map}
use Rattle.gos_plan.specs.Seen.{import_of}
use Rattle.gos_plan.specs.ObjectItems.{import_line}
use Rattle.gos_plan.proofs.TextLemmas.{SoFar}
use Rattle.gos_plan.proofs.sections.import_lines.Given as goal

abbrev pub invariant-loop-left : goal.invariant-loop-left
invariant-loop-left l = SoFar (import_line l.format) l.count l.initial.cursor l.cursor (map import_of l.imports.items) l.left

abbrev pub decreases-loop-left : goal.decreases-loop-left
decreases-loop-left l = l.left
