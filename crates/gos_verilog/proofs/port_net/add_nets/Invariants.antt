use Rattle.std.proofs.Common.{◌≡◌, ◌++◌, drop}
use Rattle.gos_verilog.specs.PortNets.{nets_in_roles, nets_of_port}
use Rattle.gos_verilog.proofs.port_net.add_nets.Given as goal

-- with the nets that are left the list is whole
abbrev pub invariant-loop-k : goal.invariant-loop-k
invariant-loop-k l =
    l.list.items ++ nets_in_roles l.port.name l.port.side l.width (drop l.k l.port.nets) (drop l.k l.roles.items) ≡ l.initial.list.items ++ nets_of_port l.port
