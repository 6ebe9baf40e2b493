use Rattle.std.proofs.Common.{◌≡◌, take, map}
use Rattle.gos_plan.specs.inner.Seats.{free_held}
use Rattle.gos_plan.proofs.seats.free_seats.Given as goal

-- the seats of the handshakes so far
abbrev pub invariant-loop-contact : goal.invariant-loop-contact
invariant-loop-contact l = l.seats.items ≡ map free_held (take l.contact-index l.contacts)
