-- The lines that drive the nets of cells, where a table says which net of a port each Input cell reads.
--
-- Read first: Lines. Between the writer and its lemmas.
use Rattle.std.specs.Prelude.{◌≡◌, ℕ, suc, ◌<◌, Bool, true, false, List, [], ◌∷◌, ◌++◌, Option, Some, None, get_or, slice_get, length, codes}
use Rattle.std.specs.List.{flat_map}
use Rattle.gos_netlist.specs.Nets.{Function, Reg, Cell}
use Rattle.gos_verilog.specs.PortNets.{PortNet}
use Rattle.gos_verilog.specs.Lines.{cell_net, literal, driver, module_head, clock_declarations, port_declaration, cell_declarations, output_assignment}

-- the name of the net at a place; none where there is none
abbrev pub name_of : Option PortNet → List ℕ
name_of None = []
name_of (Some net) = net.name

-- whether a function is that of a register
abbrev pub is_register : Function → Bool
is_register (Reg a) = true
is_register f = false

-- what stands before the expression of cell i
abbrev pub target : ℕ → ℕ → Bool → List ℕ
target i w true =
    codes "  always @(posedge clk) if (rst) " ++ cell_net i ++ codes " <= " ++ literal w 0 ++ codes "; else " ++ cell_net i ++ codes " <= "
target i w false = codes "  assign " ++ cell_net i ++ codes " = "

-- the lines for cells, of which the first has number i
abbrev pub driven : List PortNet → List ℕ → ℕ → List Cell → List ℕ
driven nets table i [] = []
driven nets table i (cell ∷ cells) = driver i cell (name_of (slice_get nets (get_or table i 0))) ++ driven nets table (suc i) cells

-- the net of a port at this place is an input and cell i
abbrev pub FeedsAt : List PortNet → ℕ → ℕ → Type 0
FeedsAt nets k i = (net : PortNet) × (slice_get nets k ≡ Some net) × (net.input ≡ true) × (net.cell ≡ i)

-- where one of the first n nets is an input and cell i, the table leads from i to such a net
abbrev pub LeadsToFeeds : List PortNet → ℕ → List ℕ → Type 0
LeadsToFeeds nets n table = (j i : ℕ) → j < n → i < length table → FeedsAt nets j i → FeedsAt nets (get_or table i 0) i

-- the text of a module, with the table
abbrev pub module_lines : List ℕ → List PortNet → List ℕ → List Cell → List ℕ
module_lines name nets table cells =
    module_head name nets ++ clock_declarations ++ flat_map port_declaration nets ++ cell_declarations 0 cells
    ++ driven nets table 0 cells
    ++ (flat_map output_assignment nets ++ codes "endmodule\n")
