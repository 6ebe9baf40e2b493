use Rattle.gos_pulse.specs.inner.EventTable.{IsTableOf}
use Rattle.gos_pulse.proofs.event_table.number_inputs.Given as goal

-- the table of the events so far
abbrev pub invariant-loop-number : goal.invariant-loop-number
invariant-loop-number l = IsTableOf l.ports l.events l.number l.numbers
