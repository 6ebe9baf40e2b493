use Rattle.std.proofs.Common.{◌≡◌, ◌++◌, take, map}
use Rattle.gos_netlist.specs.Seen.{number_of}
use Rattle.gos_netlist.specs.NetText.{spaced}
use Rattle.gos_netlist.proofs.printing.add_nets.Given as goal

-- the nets so far
abbrev pub invariant-loop-net : goal.invariant-loop-net
invariant-loop-net l = l.text.items ≡ l.initial.text.items ++ spaced (map number_of (take l.net-index l.nets))
