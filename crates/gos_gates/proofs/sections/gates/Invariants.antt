use Rattle.std.proofs.Common.{◌+◌, ◌-◌, ℕ, List}
use Rattle.gos_gates.specs.inner.Shapes.{Leads, all_gates, gates_shape}
use Rattle.gos_gates.proofs.sections.gates.Given as goal

-- so many are left
abbrev pub invariant-loop-variable : goal.invariant-loop-variable
invariant-loop-variable l =
    (ls os : List ℕ)
    → Leads l.initial.cursor l.cursor (all_gates l.fn.header ls os) (gates_shape l.fn.header ls os l.variable (l.fn.header.variables + 1 - l.variable) l.gates.items)
