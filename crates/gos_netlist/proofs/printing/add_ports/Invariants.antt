use Rattle.std.proofs.Common.{◌≡◌, ◌++◌, take}
use Rattle.std.specs.List.{flat_map}
use Rattle.gos_netlist.specs.NetText.{port_text}
use Rattle.gos_netlist.proofs.printing.add_ports.Given as goal

-- the lines so far
abbrev pub invariant-loop-port : goal.invariant-loop-port
invariant-loop-port l = l.text.items ≡ l.initial.text.items ++ flat_map port_text (take l.port-index l.ports)
