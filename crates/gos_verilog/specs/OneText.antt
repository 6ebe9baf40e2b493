-- That a netlist has one text at most, and a text is that of one netlist at most.
--
-- Read first: VerilogText, Readable; Writable of gos_netlist, Accepted of gos_netcheck.
use Rattle.std.specs.Prelude.{◌≡◌, ℕ, List}
use Rattle.gos_netlist.specs.Nets.{Netlist}
use Rattle.gos_netlist.specs.Writable.{IsWritable}
use Rattle.gos_netcheck.specs.Accepted.{IsAccepted}
use Rattle.gos_verilog.specs.VerilogText.{IsVerilogOf}
use Rattle.gos_verilog.specs.Readable.{IsRead}

-- an accepted netlist, whose names are names and whose numbers are in the ranges of the format
abbrev pub IsPrintable : Netlist → Type 0
IsPrintable net = IsWritable net × IsAccepted net

-- no two accepted netlists have this text
abbrev pub IsOneNetlist : List ℕ → Type 0
IsOneNetlist text = (net other : Netlist) → IsPrintable net → IsPrintable other → IsVerilogOf net text → IsVerilogOf other text → net ≡ other

-- this netlist has no two texts
abbrev pub HasOneText : Netlist → Type 0
HasOneText net = (text other : List ℕ) → IsVerilogOf net text → IsVerilogOf net other → text ≡ other

-- no two netlists are read from this text
abbrev pub IsReadAsOne : List ℕ → Type 0
IsReadAsOne text = (net other : Netlist) → IsRead text net → IsRead text other → net ≡ other

-- from the text of this netlist no other one is read
abbrev pub IsReadBack : Netlist → Type 0
IsReadBack net = (text : List ℕ) (other : Netlist) → IsPrintable net → IsVerilogOf net text → IsRead text other → net ≡ other
