use Rattle.std.proofs.Common.{◌-◌, ◌≤◌, [], List, length}
use Rattle.gos_witness.specs.declared.labels.Label.{Label}
use Rattle.gos_witness.specs.inner.Left.{Leads}
use Rattle.gos_witness.specs.inner.TraceParts.{TraceLeft}
use Rattle.gos_witness.proofs.trace.labels.Given as goal

-- the lines so far are passed
abbrev pub invariant-loop-line : goal.invariant-loop-line
invariant-loop-line l =
    (l.from ≤ 999999)
    × Leads (List Label) (TraceLeft l.ports 0 []) (TraceLeft l.ports l.from l.labels.items) l.initial.cursor l.cursor

abbrev pub decreases-loop-line : goal.decreases-loop-line
decreases-loop-line l = length l.initial.cursor.text - l.cursor.at
