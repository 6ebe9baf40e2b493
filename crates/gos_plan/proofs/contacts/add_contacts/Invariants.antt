use Rattle.std.proofs.Common.{◌≡◌, ◌++◌, take, map}
use Rattle.gos_plan.specs.inner.Turned.{contact_for}
use Rattle.gos_plan.proofs.contacts.add_contacts.Given as goal

-- the handshakes so far
abbrev pub invariant-loop-shake : goal.invariant-loop-shake
invariant-loop-shake l = l.contacts.items ≡ l.initial.contacts.items ++ map (contact_for l.turned) (take l.shake-index l.shakes)
