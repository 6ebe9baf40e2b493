use Rattle.std.proofs.Common.{◌≡◌, take, map}
use Rattle.gos_plan.specs.Contacts.{contact_held}
use Rattle.gos_expand.specs.inner.Arrivals.{new_arrival}
use Rattle.gos_expand.proofs.arrivals.entries.Given as goal

-- the entries of the handshakes so far
abbrev pub invariant-loop-contact : goal.invariant-loop-contact
invariant-loop-contact l = l.entries.items ≡ map (λ c. new_arrival (contact_held c)) (take l.contact-index l.contacts)
