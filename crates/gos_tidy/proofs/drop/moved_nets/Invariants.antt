use Rattle.std.proofs.Common.{◌≡◌, map, take}
use Rattle.gos_netlist.specs.Seen.{number_of}
use Rattle.gos_netlist.specs.Settling.{at}
use Rattle.gos_tidy.proofs.drop.moved_nets.Given as goal

abbrev pub invariant-loop-net : goal.invariant-loop-net
invariant-loop-net l = map number_of l.moved.items ≡ map (λ n. at l.numbers (at l.targets n)) (map number_of (take l.net-index l.nets))
