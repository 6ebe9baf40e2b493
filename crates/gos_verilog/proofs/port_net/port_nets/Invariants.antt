use Rattle.std.proofs.Common.{◌≡◌, take}
use Rattle.std.specs.List.{flat_map}
use Rattle.gos_verilog.specs.PortNets.{nets_of_port}
use Rattle.gos_verilog.proofs.port_net.port_nets.Given as goal

-- the nets so far
abbrev pub invariant-loop-port : goal.invariant-loop-port
invariant-loop-port l = l.list.items ≡ flat_map nets_of_port (take l.port-index l.ports)
