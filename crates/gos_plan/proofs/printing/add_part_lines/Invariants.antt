use Rattle.std.proofs.Common.{◌≡◌, ◌++◌, take, map}
use Rattle.std.specs.List.{flat_map}
use Rattle.gos_plan.specs.Seen.{part_of}
use Rattle.gos_plan.specs.ObjectText.{part_text}
use Rattle.gos_plan.proofs.printing.add_part_lines.Given as goal

-- the lines so far
abbrev pub invariant-loop-part : goal.invariant-loop-part
invariant-loop-part l = l.text.items ≡ l.initial.text.items ++ flat_map part_text (map part_of (take l.part-index l.parts))
