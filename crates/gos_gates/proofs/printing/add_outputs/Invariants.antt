use Rattle.std.proofs.Common.{◌≡◌, ◌++◌, take}
use Rattle.gos_gates.specs.AagText.{output_lines}
use Rattle.gos_gates.proofs.printing.add_outputs.Given as goal

-- the lines so far
abbrev pub invariant-loop-output : goal.invariant-loop-output
invariant-loop-output l = l.text.items ≡ l.initial.text.items ++ output_lines (take l.output-index l.outputs)
