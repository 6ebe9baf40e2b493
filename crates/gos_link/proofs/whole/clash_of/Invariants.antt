use Rattle.std.proofs.Common.{map}
use Rattle.gos_link.specs.Linked.{AreDifferent}
use Rattle.gos_link.specs.inner.Ports.{IsTable, port_seen}
use Rattle.gos_link.proofs.whole.clash_of.Given as goal

-- the table has the names of the ports so far, which differ
abbrev pub invariant-loop-number : goal.invariant-loop-number
invariant-loop-number l = IsTable (map port_seen l.ports) l.number l.numbers × AreDifferent l.number (map port_seen l.ports)
