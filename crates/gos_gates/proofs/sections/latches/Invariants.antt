use Rattle.std.proofs.Common.{◌+◌, ◌-◌}
use Rattle.gos_gates.specs.inner.Shapes.{Leads, all_latches, latches_shape}
use Rattle.gos_gates.proofs.sections.latches.Given as goal

-- so many are left
abbrev pub invariant-loop-variable : goal.invariant-loop-variable
invariant-loop-variable l =
    Leads l.initial.cursor l.cursor (all_latches l.header)
    (latches_shape l.header l.variable (l.header.inputs + l.header.latches + 1 - l.variable) l.latches.items)
