use Rattle.std.proofs.Common.{◌≡◌, map}
use Rattle.gos_netlist.specs.Seen.{number_of}
use Rattle.gos_netlist.proofs.NetsLemmas.{NetsSoFar}
use Rattle.gos_netlist.proofs.items.so_many_nets.Given as goal

abbrev pub invariant-loop-left : goal.invariant-loop-left
invariant-loop-left l =
    NetsSoFar l.count l.initial.cursor l.cursor (map number_of l.nets.items) l.left × (l.nets.capacity ≡ 6)

abbrev pub decreases-loop-left : goal.decreases-loop-left
decreases-loop-left l = l.left
