use Rattle.std.proofs.Common.{◌≡◌, take}
use Rattle.gos_pulse.specs.Driving.{next_entries}
use Rattle.gos_pulse.proofs.queue.next_entries.Given as goal

-- the `next` entries so far
abbrev pub invariant-loop-entry : goal.invariant-loop-entry
invariant-loop-entry l = l.next.items ≡ next_entries (take l.entry-index l.entries)
