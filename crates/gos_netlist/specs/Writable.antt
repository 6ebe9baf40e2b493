-- Which netlists have a text of the format: those whose numbers are in its ranges.
--
-- Read first: NetText. Says nothing of whether the nets that are named are there.
use Rattle.std.specs.Prelude.{◌≡◌, ℕ, ◌^◌, ◌<◌, ◌≤◌, length}
use Rattle.std.specs.List.{AllByRecursion}
use Rattle.gos_types.specs.Types.{Type', Com, Exp, Var}
use Rattle.gos_types.specs.Widths.{IsWidth}
use Rattle.gos_lex.specs.Names.{IsNameOrWord}
use Rattle.gos_netlist.specs.Nets.{Function, Const, pins, Cell, NetPort, Netlist}
use Rattle.gos_netlist.specs.Events.{net_count}

-- a net's number, or a count
abbrev pub IsNumber : ℕ → Type 0
IsNumber n = n ≤ 4294967295

-- the constant of a cell of w bits has at most w bits; the nets that it names are numbers
abbrev pub OperandsFit : ℕ → Function → Type 0
OperandsFit w (Const k) = k < 2 ^ w
OperandsFit w f = AllByRecursion IsNumber (pins f)

-- a cell
abbrev pub IsWritableCell : Cell → Type 0
IsWritableCell c = IsWidth c.width × OperandsFit c.width c.gate

-- the type of a port
abbrev pub IsPortType : Type' → Type 0
IsPortType Com = Unit {0}
IsPortType (Exp w) = IsWidth w
IsPortType (Var w) = IsWidth w
IsPortType t = ⊥

-- a port
pub record IsWritablePort (p : NetPort) : Type 0 where
  pub name : IsNameOrWord p.name
  pub ty : IsPortType p.ty
  pub many : length p.nets ≡ net_count p.ty
  pub nets : AllByRecursion IsNumber p.nets

-- a netlist
pub record IsWritable (net : Netlist) : Type 0 where
  pub cells : AllByRecursion IsWritableCell net.cells
  pub cell_count : IsNumber (length net.cells)
  pub ports : AllByRecursion IsWritablePort net.ports
  pub port_count : IsNumber (length net.ports)
