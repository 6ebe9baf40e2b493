use Rattle.std.proofs.Common.{◌≡◌, ◌++◌, codes, take, map}
use Rattle.gos_netlist.specs.Seen.{number_of}
use Rattle.gos_netlist.specs.NetText.{spaced}
use Rattle.gos_flow.proofs.fault_text.cycle_text.Given as goal

-- the nets so far
abbrev pub invariant-loop-net : goal.invariant-loop-net
invariant-loop-net l = l.text.items ≡ codes "K1 cycle" ++ spaced (map number_of (take l.net-index l.nets))
