-- Which netlists a Verilog text is read as.
--
-- Read first: VerilogText; Writable of gos_netlist, Rules of gos_netcheck. Such a netlist need not be accepted: pins and
-- outputs may name nets that aren't there.
use Rattle.std.specs.Prelude.{◌≡◌, ◌≢◌, ℕ, ◌<◌, true, List, length, Some, slice_get}
use Rattle.gos_netlist.specs.Nets.{Input, Cell, NetPort, Netlist}
use Rattle.gos_netlist.specs.Writable.{IsWritable}
use Rattle.gos_netcheck.specs.Rules.{KeptBefore, Kept}
use Rattle.gos_verilog.specs.declared.fault.VFault.{VFault}
use Rattle.gos_verilog.specs.declared.fault.VFault.TheVariants.{Form, NoMemory}
use Rattle.gos_verilog.specs.PortNets.{PortNet, port_nets}
use Rattle.gos_verilog.specs.VerilogText.{IsVerilogOf}

-- no port before the one at place k has its name
abbrev pub HasOwnName : List NetPort → ℕ → NetPort → Type 0
HasOwnName ports k p = KeptBefore (λ _ q. q.name ≢ p.name) ports k

-- an input is an Input cell of its bits
abbrev pub IsInputCell : List Cell → PortNet → Type 0
IsInputCell cells net = net.input ≡ true → slice_get cells net.cell ≡ Some (record { width = net.width; gate = Input })

-- no input before the one at place k is its cell
abbrev pub HasOwnCell : List PortNet → ℕ → PortNet → Type 0
HasOwnCell nets k net = net.input ≡ true → KeptBefore (λ _ other. other.input ≡ true → other.cell ≢ net.cell) nets k

-- Numbers and names are in the ranges of the format, there is a port, ports have names of their own, and each input is an
-- Input cell of its own.
pub record IsReadable (net : Netlist) : Type 0 where
  pub writable : IsWritable net
  pub some : 0 < length net.ports
  pub names : Kept (HasOwnName net.ports) net.ports
  pub inputs : Kept (λ _ n. IsInputCell net.cells n) (port_nets net.ports)
  pub once : Kept (HasOwnCell (port_nets net.ports)) (port_nets net.ports)

-- the text is that of this netlist, which texts are read as
abbrev pub IsRead : List ℕ → Netlist → Type 0
IsRead text net = IsReadable net × IsVerilogOf net text

-- the fault is right to refuse the text: it is that of no netlist, or memory was wanting
abbrev pub IsRefused : List ℕ → VFault → Type 0
IsRefused text (Form at) = (net : Netlist) → IsRead text net → ⊥
IsRefused text NoMemory = Unit {0}
