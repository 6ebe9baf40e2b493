use Rattle.std.proofs.Common.{◌≡◌, take}
use Rattle.gos_pulse.specs.Guarding.{halves_of}
use Rattle.gos_pulse.proofs.guard.halves.Given as goal

-- the halves so far
abbrev pub invariant-loop-event : goal.invariant-loop-event
invariant-loop-event l = l.halves.items ≡ halves_of l.inputs (take l.event-index l.events)
