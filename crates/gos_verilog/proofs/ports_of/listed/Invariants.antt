use Rattle.std.proofs.Common.{◌≡◌, length, map, take}
use Rattle.std.specs.List.{AllByRecursion}
use Rattle.gos_netlist.specs.Seen.{number_of}
use Rattle.gos_netlist.specs.Writable.{IsNumber}
use Rattle.gos_verilog.specs.PortNets.{PortNet}
use Rattle.gos_verilog.proofs.ports_of.listed.Given as goal

-- the nets so far
abbrev pub invariant-loop-net : goal.invariant-loop-net
invariant-loop-net l =
    record {
      count : length l.list.items ≡ l.net-index;
      numbers : AllByRecursion IsNumber (map number_of l.list.items);
      cells : map number_of l.list.items ≡ map (λ (net : PortNet). net.cell) (take l.net-index l.nets);
    }
