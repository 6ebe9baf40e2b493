use Rattle.std.proofs.Common.{◌+◌, ◌-◌}
use Rattle.gos_gates.specs.inner.Shapes.{Leads, lines_shape, inputs_shape}
use Rattle.gos_gates.proofs.sections.inputs.Given as goal

-- so many are left
abbrev pub invariant-loop-variable : goal.invariant-loop-variable
invariant-loop-variable l =
    Leads l.initial.cursor l.cursor (lines_shape l.fn.header) (inputs_shape l.fn.header l.variable (l.fn.header.inputs + 1 - l.variable))
