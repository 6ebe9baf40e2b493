-- The Verilog text of a netlist.
--
-- Read first: Lines. One module, whose lines stand in a fixed order: its head; the declarations of the clock, the reset,
-- the nets of ports and the nets of cells; what drives each cell's net; the assignments of the outputs; its end.
use Rattle.std.specs.Prelude.{◌≡◌, ℕ, suc, true, List, [], ◌∷◌, ◌++◌, Some, slice_get, codes}
use Rattle.std.specs.List.{flat_map}
use Rattle.gos_netlist.specs.Nets.{Input, Cell, NetPort, Netlist}
use Rattle.gos_verilog.specs.PortNets.{PortNet, port_nets}
use Rattle.gos_verilog.specs.Lines.{module_head, clock_declarations, port_declaration, cell_declarations, driver, output_assignment}

-- the name of the module's first port
abbrev pub first_name : List NetPort → List ℕ
first_name [] = []
first_name (p ∷ ports) = p.name

-- the lines before those that drive the cells' nets
abbrev pub declarations : Netlist → List ℕ
declarations net =
    module_head (first_name net.ports) (port_nets net.ports)
    ++ clock_declarations
    ++ flat_map port_declaration (port_nets net.ports)
    ++ cell_declarations 0 net.cells

-- the lines behind them
abbrev pub outputs : Netlist → List ℕ
outputs net = flat_map output_assignment (port_nets net.ports) ++ codes "endmodule\n"

-- whether a net of a port may feed an Input cell, by the cell's number and its bits
abbrev pub Feeding : Type 1
Feeding = ℕ → ℕ → PortNet → Type 0

-- `source` names an input of the module that may feed the cell of number i
abbrev pub IsFed : Feeding → List PortNet → ℕ → Cell → List ℕ → Type 0
IsFed Feeds nets i cell source =
    (k : ℕ) × (net : PortNet) × (slice_get nets k ≡ Some net) × (net.input ≡ true) × Feeds i cell.width net × (source ≡ net.name)

-- the lines that drive the nets of cells, of which the first has number i
abbrev pub AreDrivers : Feeding → List PortNet → ℕ → List Cell → List ℕ → Type 0
AreDrivers Feeds nets i [] text = text ≡ []
AreDrivers Feeds nets i (cell ∷ cells) text =
    (source rest : List ℕ)
    × (cell.gate ≡ Input → IsFed Feeds nets i cell source)
    × AreDrivers Feeds nets (suc i) cells rest
    × (text ≡ driver i cell source ++ rest)

-- the text is a module of this netlist, in which each Input cell is fed so
abbrev pub IsModuleOf : Feeding → Netlist → List ℕ → Type 0
IsModuleOf Feeds net text =
    (drivers : List ℕ) × AreDrivers Feeds (port_nets net.ports) 0 net.cells drivers × (text ≡ declarations net ++ drivers ++ outputs net)

-- an Input cell reads the net of a port that it is
abbrev pub IsItsNet : Feeding
IsItsNet i w net = net.cell ≡ i

-- the text is that of this netlist
abbrev pub IsVerilogOf : Netlist → List ℕ → Type 0
IsVerilogOf = IsModuleOf IsItsNet
