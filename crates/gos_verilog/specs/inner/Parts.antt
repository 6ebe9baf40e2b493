-- The parts of a text of a netlist, as the stages of the reader find them.
--
-- Read first: Noted, VerilogText, Place.
use Rattle.std.specs.Prelude.{◌≡◌, ℕ, ◌≤◌, List, ◌++◌, length, codes}
use Rattle.std.specs.List.{AllByRecursion, flat_map}
use Rattle.gos_lex.specs.Names.{IsNameOrWord}
use Rattle.gos_netlist.specs.Nets.{Cell, NetPort, Netlist}
use Rattle.gos_netlist.specs.Writable.{IsNumber, IsWritablePort}
use Rattle.gos_verilog.specs.PortNets.{PortNet, port_nets}
use Rattle.gos_verilog.specs.Lines.{output_assignment, port_declaration}
use Rattle.gos_verilog.specs.VerilogText.{AreDrivers, IsItsNet}
use Rattle.gos_verilog.specs.Place.{head_of}
use Rattle.gos_verilog.specs.inner.Stages.{HaveNames, HaveWidths, HaveCellWidths, IsBody}
use Rattle.gos_verilog.specs.inner.Noted.{AreRight}

-- the text up to the declarations of cells' nets, where these are the ports
abbrev pub front_of : List NetPort → List ℕ
front_of ports = head_of ports ++ flat_map port_declaration (port_nets ports)

-- the name of the module, the nets of ports, the cells, the lines that drive them, and what stands behind these
pub record Parts (net : Netlist) : Type 0 where
  pub first : List ℕ
  pub nets : List PortNet
  pub cells : List Cell
  pub drivers : List ℕ
  pub back : List ℕ
  pub nets_are : nets ≡ port_nets net.ports
  pub cells_are : cells ≡ net.cells
  pub back_is : back ≡ flat_map output_assignment nets ++ codes "endmodule\n"
  pub ports : AllByRecursion IsWritablePort net.ports
  pub bytes : IsNameOrWord first
  pub names : HaveNames nets
  pub wide : HaveWidths nets
  pub numbers : AllByRecursion (λ n. IsNumber n.cell) nets
  pub cell_wide : HaveCellWidths cells
  pub few : length cells ≤ 4294967295
  pub body : IsBody (drivers ++ back)
  pub right : AreRight nets cells
  pub are : AreDrivers IsItsNet nets 0 cells drivers
