use Rattle.std.proofs.Common.{◌≡◌, ◌+◌, ◌++◌, drop}
use Rattle.gos_gates.specs.AagText.{latch_lines}
use Rattle.gos_gates.proofs.printing.add_latches.Given as goal

-- with the lines that are left
abbrev pub invariant-loop-latch : goal.invariant-loop-latch
invariant-loop-latch l =
    (l.variable ≡ l.first + l.latch-index)
    × (l.text.items ++ latch_lines l.variable (drop l.latch-index l.latches) ≡ l.initial.text.items ++ latch_lines l.first l.latches)
