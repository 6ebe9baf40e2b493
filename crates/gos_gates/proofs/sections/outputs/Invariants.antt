use Rattle.std.proofs.Common.{◌-◌, ℕ, List}
use Rattle.gos_gates.specs.inner.Shapes.{Leads, all_outputs, outputs_shape}
use Rattle.gos_gates.proofs.sections.outputs.Given as goal

-- so many are left
abbrev pub invariant-loop-count : goal.invariant-loop-count
invariant-loop-count l =
    (ls : List ℕ) → Leads l.initial.cursor l.cursor (all_outputs l.header ls) (outputs_shape l.header ls (l.header.outputs - l._count) l.outputs.items)
