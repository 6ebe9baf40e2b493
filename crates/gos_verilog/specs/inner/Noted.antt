-- The places of inputs by name, and the cells that were noted to read them.
--
-- Read first: Stages, VerilogText. Between the reader of the lines that drive cells' nets and its lemmas.
use Rattle.std.specs.Prelude.{◌≡◌, ℕ, ◌<◌, true, List, ◌++◌, Some, get_or, length, set, slice_get}
use Rattle.std.specs.List.{AllByRecursion}
use Rattle.gos_netlist.specs.Nets.{Function, Input, Cell}
use Rattle.gos_netlist.specs.Writable.{OperandsFit, IsWritableCell}
use Rattle.gos_lex.specs.NameTables.{number_at}
use Rattle.gos_lex.specs.declared.table.NameTable.{NameTable}
use Rattle.gos_verilog.specs.declared.inputs.Inputs.{Inputs}
use Rattle.gos_verilog.specs.PortNets.{PortNet}
use Rattle.gos_verilog.specs.Lines.{driver_of}
use Rattle.gos_verilog.specs.VerilogText.{AreDrivers, IsItsNet}
use Rattle.gos_verilog.specs.inner.Stages.{IsNetName, HaveOwnNames}
use Rattle.gos_verilog.specs.inner.CellLines.{kind_of}
use Rattle.gos_verilog.specs.declared.cell_line.Kind.{Kind}

-- the places of the inputs among the first n nets are known
abbrev pub HasPlaces : List PortNet → ℕ → NameTable → Type 0
HasPlaces nets n places =
    (k : ℕ) (net : PortNet) → k < n → slice_get nets k ≡ Some net → net.input ≡ true → number_at places net.name ≡ Some k

-- the inputs that are cells before cell i are noted to be these
abbrev pub AreNoted : List PortNet → ℕ → List ℕ → Type 0
AreNoted nets i noted = (k : ℕ) (net : PortNet) → slice_get nets k ≡ Some net → net.input ≡ true → net.cell < i → get_or noted k 0 ≡ net.cell

abbrev pub AreAllNoted : List PortNet → List ℕ → Type 0
AreAllNoted nets noted = (k : ℕ) (net : PortNet) → slice_get nets k ≡ Some net → net.input ≡ true → get_or noted k 0 ≡ net.cell

-- the text begins with the line that drives the net of cell i of w bits, whose function is f; behind it is x
pub record IsLineOf (text : List ℕ) (i w : ℕ) (f : Function) (source x : List ℕ) : Type 0 where
  pub fits : OperandsFit w f
  pub named : f ≡ Input → IsNetName source
  pub is : text ≡ driver_of i w source f ++ x

-- the text begins with no line of this kind
abbrev pub IsNoLine : Kind → ℕ → ℕ → List ℕ → Type 0
IsNoLine kind i w text = (f : Function) (source x : List ℕ) → kind_of f ≡ Some kind → IsLineOf text i w f source x → ⊥

-- a name is that of an input of so many bits among the nets, which are as many as are noted
pub record IsKnown (nets : List PortNet) (inputs : Inputs) (w : ℕ) (name : List ℕ) : Type 0 where
  pub place : ℕ
  pub net : PortNet
  pub known : number_at inputs.places name ≡ Some place
  pub there : slice_get nets place ≡ Some net
  pub bits : net.width ≡ w
  pub input : net.input ≡ true
  pub named : name ≡ net.name
  pub inside : place < length inputs.cells.items

-- what is noted once the line of cell i with function f is read
pub record IsNotedBy (old new : Inputs) (i : ℕ) (f : Function) (source : List ℕ) : Type 0 where
  pub places : new.places ≡ old.places
  pub count : length new.cells.items ≡ length old.cells.items
  pub input : f ≡ Input → (k : ℕ) → number_at old.places source ≡ Some k → new.cells.items ≡ set old.cells.items k i
  pub other : (f ≡ Input → ⊥) → new ≡ old

-- nets of ports and cells of a netlist that is read
pub record AreRight (nets : List PortNet) (cells : List Cell) : Type 0 where
  pub names : AllByRecursion (λ n. IsNetName n.name) nets
  pub own : HaveOwnNames nets
  pub inputs : (k : ℕ) (net : PortNet) → slice_get nets k ≡ Some net → net.input ≡ true → slice_get cells net.cell ≡ Some (record { width = net.width; gate = Input })
  pub apart : (j k : ℕ) (a b : PortNet) → slice_get nets j ≡ Some a → slice_get nets k ≡ Some b → a.input ≡ true → b.input ≡ true → a.cell ≡ b.cell → j ≡ k
  pub fit : AllByRecursion IsWritableCell cells

-- the lines that drive these cells' nets stand in the text, and x behind them
pub record AreDriven (text : List ℕ) (nets : List PortNet) (cells : List Cell) (x : List ℕ) : Type 0 where
  pub right : AreRight nets cells
  pub lines : List ℕ
  pub are : AreDrivers IsItsNet nets 0 cells lines
  pub is : text ≡ lines ++ x
