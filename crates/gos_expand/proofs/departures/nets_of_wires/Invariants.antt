use Rattle.std.proofs.Common.{◌≡◌, map, take}
use Rattle.gos_expand.specs.inner.Tokens.{held_nets}
use Rattle.gos_expand.specs.inner.Departures.{nets_of_wires}
use Rattle.gos_expand.proofs.departures.nets_of_wires.Given as goal

-- the nets of the wires so far
abbrev pub invariant-loop-shake : goal.invariant-loop-shake
invariant-loop-shake l = map held_nets l.nets.items ≡ nets_of_wires (take l.shake l.contacts) l.wires
