use Rattle.std.proofs.Common.{◌≡◌, ◌+◌, ◌++◌, drop}
use Rattle.gos_gates.specs.AagText.{gate_lines}
use Rattle.gos_gates.proofs.printing.add_gates.Given as goal

-- with the lines that are left
abbrev pub invariant-loop-gate : goal.invariant-loop-gate
invariant-loop-gate l =
    (l.variable ≡ l.first + l.gate-index)
    × (l.text.items ++ gate_lines l.variable (drop l.gate-index l.gates) ≡ l.initial.text.items ++ gate_lines l.first l.gates)
