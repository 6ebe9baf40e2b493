use Rattle.std.proofs.Common.{◌≡◌, ◌++◌, take, map}
use Rattle.std.specs.List.{flat_map}
use Rattle.gos_plan.specs.Seen.{joint_of}
use Rattle.gos_plan.specs.ObjectText.{joint_text}
use Rattle.gos_plan.proofs.printing.add_joint_lines.Given as goal

-- the lines so far
abbrev pub invariant-loop-joint : goal.invariant-loop-joint
invariant-loop-joint l = l.text.items ≡ l.initial.text.items ++ flat_map joint_text (map joint_of (take l.joint-index l.joints))
