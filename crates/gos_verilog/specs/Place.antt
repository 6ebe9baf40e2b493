-- The place of a fault: the first byte that can't go on as a text.
--
-- Read first: Readable; Items of gos_lex. Which cell each input is, is judged last. Until then the line of an Input cell
-- may name any input of its bits, so texts in which it does are counted here too.
use Rattle.std.specs.Prelude.{◌≡◌, ℕ, ◌<◌, List, ◌++◌, length}
use Rattle.std.specs.List.{AllByRecursion}
use Rattle.gos_lex.specs.Items.{Begins, StopsAt}
use Rattle.gos_netlist.specs.Nets.{NetPort, Netlist}
use Rattle.gos_netlist.specs.Writable.{IsNumber, IsWritablePort, IsWritable}
use Rattle.gos_netcheck.specs.Rules.{Kept}
use Rattle.gos_verilog.specs.declared.fault.VFault.{VFault}
use Rattle.gos_verilog.specs.declared.fault.VFault.TheVariants.{Form, NoMemory}
use Rattle.gos_verilog.specs.VerilogText.{first_name, Feeding, IsModuleOf}
use Rattle.gos_verilog.specs.PortNets.{port_nets}
use Rattle.gos_verilog.specs.Lines.{module_head, clock_declarations}
use Rattle.gos_verilog.specs.Readable.{HasOwnName, IsRead}

-- an Input cell reads an input of its bits
abbrev pub IsOfItsBits : Feeding
IsOfItsBits i w net = net.width ≡ w

-- numbers and names are in the ranges of the format, there is a port, and ports have names of their own
pub record IsFormed (net : Netlist) : Type 0 where
  pub writable : IsWritable net
  pub some : 0 < length net.ports
  pub names : Kept (HasOwnName net.ports) net.ports

-- a text of the form of a netlist's
abbrev pub IsFormedText : List ℕ → Type 0
IsFormedText text = (net : Netlist) × IsFormed net × IsModuleOf IsOfItsBits net text

-- such a text begins with these bytes
abbrev pub BeginsText : List ℕ → Type 0
BeginsText = Begins IsFormedText

-- such a text begins with the bytes before the place, and none with those and the byte there, or the text ends there
abbrev pub IsPlace : List ℕ → ℕ → Type 0
IsPlace text at = StopsAt IsFormedText text 0 at

-- a text that is read is of the form
abbrev pub ReadIsFormed : Type 0
ReadIsFormed = (text : List ℕ) (net : Netlist) → IsRead text net → IsFormedText text

-- a text has one place at most
abbrev pub HasOnePlace : Type 0
HasOnePlace = (text : List ℕ) (at other : ℕ) → IsPlace text at → IsPlace text other → at ≡ other

-- the text up to the declarations of the nets of these ports
abbrev pub head_of : List NetPort → List ℕ
head_of ports = module_head (first_name ports) (port_nets ports) ++ clock_declarations

-- ports of names of their own, whose names and numbers are in the ranges of the format
pub record ArePorts (ports : List NetPort) : Type 0 where
  pub writable : AllByRecursion IsWritablePort ports
  pub count : IsNumber (length ports)
  pub some : 0 < length ports
  pub names : Kept (HasOwnName ports) ports

-- the text has the names of the nets of such ports
abbrev pub HasHead : List ℕ → Type 0
HasHead text = (ports : List NetPort) × (more : List ℕ) × ArePorts ports × (text ≡ head_of ports ++ more)

-- the fault is at its place
abbrev pub HasPlace : List ℕ → VFault → Type 0
HasPlace text (Form at) = IsPlace text at
HasPlace text NoMemory = Unit {0}
