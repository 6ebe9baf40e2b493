use Rattle.std.proofs.Common.{map}
use Rattle.gos_plan.specs.Seen.{joint_of}
use Rattle.gos_plan.specs.ObjectItems.{joint_line}
use Rattle.gos_plan.proofs.TextLemmas.{SoFar}
use Rattle.gos_plan.proofs.sections.joint_lines.Given as goal

abbrev pub invariant-loop-left : goal.invariant-loop-left
invariant-loop-left l = SoFar joint_line l.count l.initial.cursor l.cursor (map joint_of l.joints.items) l.left

abbrev pub decreases-loop-left : goal.decreases-loop-left
decreases-loop-left l = l.left
