-- What a module means by IEEE 1364-2005, and that the text of a netlist means the netlist, with its ports.
--
-- Read first: Expressions, VerilogText; Settling of gos_netlist. A module is what its text says, line by line; nothing
-- here is made from a netlist but the right side of `Means`.
use Rattle.std.specs.Prelude.{◌≡◌, ℕ, zero, suc, ◌<◌, ◌↔◌, ◌⊎◌, Bool, true, false, if◌then◌else◌, List, [], ◌∷◌, ◌++◌, length, map, Some, slice_get, codes}
use Rattle.std.specs.List.{AllByRecursion, flat_map}
use Rattle.gos_netlist.specs.Nets.{Function, Input, Mux, Gate, Reg, Cell, Netlist}
use Rattle.gos_netlist.specs.Settling.{Numbers, at, next_of, Settling}
use Rattle.gos_netcheck.specs.Accepted.{IsAccepted}
use Rattle.gos_verilog.specs.PortNets.{PortNet, port_nets}
use Rattle.gos_verilog.specs.Lines.{assignment, cell_net, clock_declarations, declaration, direction_word, register}
use Rattle.gos_verilog.specs.VerilogText.{first_name, IsVerilogOf}
use Rattle.gos_verilog.specs.Expressions.{Operand, OfPort, Expression, expression_text, operands, value}

-- a net of a port as it is declared: its name, whether it is an input of the module, and its bits
pub record DeclaredPort : Type 0 where
  pub name : List ℕ
  pub input : Bool
  pub width : ℕ

-- the net of a cell as it is declared: whether it is a variable, which the clock sets, and its bits
pub record DeclaredNet : Type 0 where
  pub clocked : Bool
  pub width : ℕ

-- A line behind the declarations. The net of cell n is an expression at all times; or it takes one at a clock edge, and
-- in reset a 0 of w bits; or an output is the net of cell n.
pub data Line : Type 0 where
  Drives : (n : ℕ) (e : Expression) → Line
  Clocks : (n w : ℕ) (e : Expression) → Line
  Assigns : (name : List ℕ) (n : ℕ) → Line

-- a module: what stands behind `gos_` in its name, the nets of its ports, the nets of its cells by number, and its lines
pub record Module : Type 0 where
  pub name : List ℕ
  pub ports : List DeclaredPort
  pub nets : List DeclaredNet
  pub lines : List Line

-- its text
abbrev pub port_text : DeclaredPort → List ℕ
port_text p = declaration (direction_word p.input) p.width p.name

abbrev pub net_word : Bool → List ℕ
net_word true = codes "reg"
net_word false = codes "wire"

abbrev pub nets_text : ℕ → List DeclaredNet → List ℕ
nets_text n [] = []
nets_text n (d ∷ nets) = declaration (net_word d.clocked) d.width (cell_net n) ++ nets_text (suc n) nets

abbrev pub line_text : Line → List ℕ
line_text (Drives n e) = assignment (cell_net n) (expression_text e)
line_text (Clocks n w e) = register n w (expression_text e)
line_text (Assigns name n) = assignment name (cell_net n)

abbrev pub module_text : Module → List ℕ
module_text m =
    (codes "module gos_" ++ m.name ++ codes "(clk, rst" ++ flat_map (λ p. codes ", " ++ p.name) m.ports ++ codes ");\n")
    ++ clock_declarations ++ flat_map port_text m.ports ++ nets_text 0 m.nets ++ flat_map line_text m.lines ++ codes "endmodule\n"

-- a net of this name is declared as an input, or as an output
abbrev pub IsDeclared : List DeclaredPort → Bool → List ℕ → Type 0
IsDeclared [] input name = ⊥
IsDeclared (p ∷ ports) input name = ((p.name ≡ name) × (p.input ≡ input)) ⊎ IsDeclared ports input name

-- where an operand is a net of a port, it is an input
abbrev pub ReadsInput : List DeclaredPort → Operand → Type 0
ReadsInput ports (OfPort name) = IsDeclared ports true name
ReadsInput ports a = Unit {0}

-- of the nets of ports a line reads inputs alone, and assigns outputs alone
abbrev pub UsesPorts : List DeclaredPort → Line → Type 0
UsesPorts ports (Drives n e) = AllByRecursion (ReadsInput ports) (operands e)
UsesPorts ports (Clocks n w e) = AllByRecursion (ReadsInput ports) (operands e)
UsesPorts ports (Assigns name n) = IsDeclared ports false name

-- what the nets of ports show in a cycle, by their names
abbrev pub PortValues : Type 0
PortValues = List ℕ → ℕ

-- the bits of the net of cell n
abbrev pub bits_at : List DeclaredNet → ℕ → ℕ
bits_at [] n = 0
bits_at (d ∷ nets) zero = d.width
bits_at (d ∷ nets) (suc n) = bits_at nets n

-- Where registers hold regs, the nets of ports show `seen`, and the nets of cells v, the line is met.
abbrev pub MeetsLine : List DeclaredNet → Numbers → PortValues → Numbers → Line → Type 0
MeetsLine nets regs seen v (Drives n e) = at v n ≡ value (bits_at nets n) seen (at v) e
MeetsLine nets regs seen v (Clocks n w e) = at v n ≡ at regs n
MeetsLine nets regs seen v (Assigns name n) = seen name ≡ at v n

-- all lines are met at once
abbrev pub MeetsAll : Module → Numbers → PortValues → Numbers → Type 0
MeetsAll m regs seen v = (length v ≡ length m.nets) × AllByRecursion (MeetsLine m.nets regs seen v) m.lines

-- at a clock edge a register becomes 0 in reset, and else what its expression was before the edge
abbrev pub SetsLine : Bool → List DeclaredNet → PortValues → Numbers → Numbers → Line → Type 0
SetsLine reset nets seen v after (Clocks n w e) = at after n ≡ (if reset then 0 else value (bits_at nets n) seen (at v) e)
SetsLine reset nets seen v after line = Unit {0}

-- at a clock edge all registers are set so
abbrev pub SetsAll : Bool → Module → PortValues → Numbers → Numbers → Type 0
SetsAll reset m seen v after = AllByRecursion (SetsLine reset m.nets seen v after) m.lines

-- the selector of a function, where it has one, is 0 or 1
abbrev pub SelectorIsBit : Numbers → Function → Type 0
SelectorIsBit v (Mux s a b) = at v s < 2
SelectorIsBit v (Gate s a) = at v s < 2
SelectorIsBit v f = Unit {0}

-- whether a function is that of a register
abbrev pub is_clocked : Function → Bool
is_clocked (Reg a) = true
is_clocked f = false

-- registers and inputs of one bit hold bits
abbrev pub HoldBits : List Cell → Numbers → Numbers → Type 0
HoldBits cells regs ins =
    (n : ℕ) (c : Cell) → slice_get cells n ≡ Some c → c.width ≡ 1
    → (is_clocked c.gate ≡ true → at regs n < 2) × (c.gate ≡ Input → at ins n < 2)

-- the declarations of a net of a port, and of the net of a cell
abbrev pub port_declared : PortNet → DeclaredPort
port_declared net = record { name = net.name; input = net.input; width = net.width }

abbrev pub cell_declared : Cell → DeclaredNet
cell_declared c = record { clocked = is_clocked c.gate; width = c.width }

-- an input shows what the Input cell that it is gets
abbrev pub GivesInput : PortValues → Numbers → PortNet → Type 0
GivesInput seen ins net = net.input ≡ true → seen net.name ≡ at ins net.cell

-- an output shows the net of its cell
abbrev pub ShowsOutput : PortValues → Numbers → PortNet → Type 0
ShowsOutput seen v net = net.input ≡ false → seen net.name ≡ at v net.cell

-- The module means the netlist. It declares the nets of its ports and of its cells, and uses them so. Where inputs show
-- what Input cells get, all lines are met exactly where the nets are a settling and each output shows its net, if
-- selectors are bits; and those of an accepted netlist are, where registers and inputs of one bit hold bits. At a clock
-- edge registers take the netlist's next registers, or 0 in reset.
pub record Means (m : Module) (net : Netlist) : Type 0 where
  pub named : m.name ≡ first_name net.ports
  pub of_ports : m.ports ≡ map port_declared (port_nets net.ports)
  pub of_nets : m.nets ≡ map cell_declared net.cells
  pub uses : AllByRecursion (UsesPorts m.ports) m.lines
  pub settles : (regs ins v : Numbers) (seen : PortValues) → AllByRecursion (λ c. SelectorIsBit v c.gate) net.cells
      → AllByRecursion (GivesInput seen ins) (port_nets net.ports)
      → MeetsAll m regs seen v ↔ (Settling net.cells regs ins v × AllByRecursion (ShowsOutput seen v) (port_nets net.ports))
  pub selectors : (regs ins v : Numbers) (seen : PortValues) → IsAccepted net → HoldBits net.cells regs ins
      → AllByRecursion (GivesInput seen ins) (port_nets net.ports) → MeetsAll m regs seen v → AllByRecursion (λ c. SelectorIsBit v c.gate) net.cells
  pub edge : (reset : Bool) (seen : PortValues) (v after : Numbers) → SetsAll reset m seen v after
      ↔ ((n : ℕ) (c : Cell) → slice_get net.cells n ≡ Some c → is_clocked c.gate ≡ true → at after n ≡ (if reset then 0 else next_of c.gate v))

-- the text is that of a module that means the netlist
abbrev pub HasMeaning : List ℕ → Netlist → Type 0
HasMeaning text net = (m : Module) × (text ≡ module_text m) × Means m net

-- each text of a netlist means the netlist
abbrev pub TextsMean : Type 0
TextsMean = (net : Netlist) (text : List ℕ) → IsVerilogOf net text → HasMeaning text net
