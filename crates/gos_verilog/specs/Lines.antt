-- The lines of a Verilog module: its head, its declarations, its continuous assignments and its registers.
--
-- Read first: PortNets; Nets of gos_netlist. The net that cell I drives is named nI. In IEEE 1364-2005 a continuous
-- assignment holds at all times; a non-blocking assignment at a clock edge takes its right side from before the edge;
-- and with all operands and the target of W bits `+` and `-` drop the carry.
use Rattle.std.specs.Prelude.{ℕ, suc, ◌-◌, Bool, true, false, if◌then◌else◌, List, [], ◌∷◌, ◌++◌, codes}
use Rattle.std.specs.List.{flat_map}
use Rattle.std.specs.Fmt.{decimal}
use Rattle.gos_netlist.specs.Nets.{Function, Input, Const, Not, And, Or, Xor, Mux, Add, Sub, Eq, Less, Gate, Reg, Cell}
use Rattle.gos_verilog.specs.PortNets.{PortNet}

-- the head of the module: its name, the clock, the reset, and the nets of its ports
abbrev pub module_head : List ℕ → List PortNet → List ℕ
module_head name nets =
    codes "module gos_" ++ name ++ codes "(clk, rst" ++ flat_map (λ net. codes ", " ++ net.name) nets ++ codes ");\n"

-- the declarations of the clock and the reset
abbrev pub clock_declarations : List ℕ
clock_declarations = codes "  input clk;\n  input rst;\n"

-- the declaration of a net of so many bits
abbrev pub declaration : List ℕ → ℕ → List ℕ → List ℕ
declaration kind w name = codes "  " ++ kind ++ codes " [" ++ decimal (w - 1) ++ codes ":0] " ++ name ++ codes ";\n"

-- the direction of a net of a port
abbrev pub direction_word : Bool → List ℕ
direction_word true = codes "input"
direction_word false = codes "output"

-- the declaration of a net of a port
abbrev pub port_declaration : PortNet → List ℕ
port_declaration net = declaration (direction_word net.input) net.width net.name

-- the net that a cell drives
abbrev pub cell_net : ℕ → List ℕ
cell_net i = codes "n" ++ decimal i

-- a register is a variable, and each other cell drives a wire
abbrev pub kind_word : Function → List ℕ
kind_word (Reg a) = codes "reg"
kind_word f = codes "wire"

-- the declaration of the net of cell i
abbrev pub cell_declaration : ℕ → Cell → List ℕ
cell_declaration i cell = declaration (kind_word cell.gate) cell.width (cell_net i)

-- the declarations of the nets of cells, of which the first has number i
abbrev pub cell_declarations : ℕ → List Cell → List ℕ
cell_declarations i [] = []
cell_declarations i (cell ∷ cells) = cell_declaration i cell ++ cell_declarations (suc i) cells

-- a number of w bits
abbrev pub literal : ℕ → ℕ → List ℕ
literal w k = decimal w ++ codes "'d" ++ decimal k

-- a continuous assignment
abbrev pub assignment : List ℕ → List ℕ → List ℕ
assignment net value = codes "  assign " ++ net ++ codes " = " ++ value ++ codes ";\n"

-- an expression of two nets
abbrev pub binary : ℕ → List ℕ → ℕ → List ℕ
binary a sign b = cell_net a ++ codes " " ++ sign ++ codes " " ++ cell_net b

-- the second where net s is 1, and else the third
abbrev pub conditional : ℕ → List ℕ → List ℕ → List ℕ
conditional s one other = cell_net s ++ codes " ? " ++ one ++ codes " : " ++ other

-- What a cell of w bits computes, by its function. An Input reads the net of a port that is named `source`; a register
-- takes its net at a clock edge.
abbrev pub expression : ℕ → List ℕ → Function → List ℕ
expression w source Input = source
expression w source (Const k) = literal w k
expression w source (Not a) = codes "~" ++ cell_net a
expression w source (And a b) = binary a (codes "&") b
expression w source (Or a b) = binary a (codes "|") b
expression w source (Xor a b) = binary a (codes "^") b
expression w source (Mux s a b) = conditional s (cell_net a) (cell_net b)
expression w source (Add a b) = binary a (codes "+") b
expression w source (Sub a b) = binary a (codes "-") b
expression w source (Eq a b) = binary a (codes "==") b
expression w source (Less a b) = binary a (codes "<") b
expression w source (Gate s a) = conditional s (cell_net a) (literal w 0)
expression w source (Reg a) = cell_net a

-- A register of w bits: from a clock edge on it is 0 where the reset was up before the edge, and else what its expression was.
abbrev pub register : ℕ → ℕ → List ℕ → List ℕ
register i w value =
    codes "  always @(posedge clk) if (rst) " ++ cell_net i ++ codes " <= " ++ literal w 0 ++ codes "; else " ++ cell_net i ++ codes " <= "
    ++ value ++ codes ";\n"

-- what drives the net of cell i
abbrev pub driver_of : ℕ → ℕ → List ℕ → Function → List ℕ
driver_of i w source (Reg a) = register i w (expression w source (Reg a))
driver_of i w source f = assignment (cell_net i) (expression w source f)

abbrev pub driver : ℕ → Cell → List ℕ → List ℕ
driver i cell source = driver_of i cell.width source cell.gate

-- the assignment of a net of a port that is an output
abbrev pub output_assignment : PortNet → List ℕ
output_assignment net = if net.input then [] else assignment net.name (cell_net net.cell)
