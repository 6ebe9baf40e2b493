use Rattle.std.proofs.Common.{◌≡◌, ◌++◌, map, take}
use Rattle.gos_netlist.specs.Seen.{number_of}
use Rattle.gos_netlist.specs.Settling.{at}
use Rattle.gos_tidy.proofs.drop.add_ends.Given as goal

abbrev pub invariant-loop-net : goal.invariant-loop-net
invariant-loop-net l = l.ends.items ≡ l.initial.ends.items ++ map (at l.targets) (map number_of (take l.net-index l.nets))
