use Rattle.std.proofs.Common.{◌≡◌, ◌++◌, take}
use Rattle.std.specs.List.{flat_map}
use Rattle.gos_verilog.specs.Lines.{port_declaration}
use Rattle.gos_verilog.proofs.printing.add_ports.Given as goal

-- the lines so far
abbrev pub invariant-loop-net : goal.invariant-loop-net
invariant-loop-net l = l.text.items ≡ l.initial.text.items ++ flat_map port_declaration (take l.net-index l.nets)
