use Rattle.std.proofs.Common.{◌≡◌, ◌+◌, ◌-◌, ◌++◌}
use Rattle.gos_gates.specs.AagText.{input_lines}
use Rattle.gos_gates.proofs.printing.add_inputs.Given as goal

-- with the lines that are left
abbrev pub invariant-loop-i : goal.invariant-loop-i
invariant-loop-i l = l.text.items ++ input_lines (l.i + 1) (l.count - l.i) ≡ l.initial.text.items ++ input_lines 1 l.count
