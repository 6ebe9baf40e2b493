-- What may be left of a text from each stage of the reader on, by what was read before.
--
-- Read first: Breaks, Slots, CellLines; VerilogText and Place. Which cell an input is, is left open.
use Rattle.std.specs.Prelude.{◌≡◌, ◌⊎◌, ℕ, suc, ◌+◌, ◌<◌, Bool, true, false, List, [], ◌∷◌, ◌++◌, length, map, Some, slice_get, codes}
use Rattle.std.proofs.Common.{Bor}
use Rattle.std.specs.List.{AllByRecursion}
use Rattle.gos_lex.specs.Items.{IsJust, Misses}
use Rattle.gos_types.specs.Widths.{IsWidth}
use Rattle.gos_netlist.specs.Nets.{Function, Input, Side, Give, Take, NetPort}
use Rattle.gos_netlist.specs.Events.{is_input}
use Rattle.gos_lex.specs.ItemTexts.{IsTextOf, IsInRange}
use Rattle.gos_netlist.specs.Writable.{IsNumber, OperandsFit}
use Rattle.gos_verilog.specs.declared.slots.TheConstants.{LAST_BIT}
use Rattle.gos_verilog.specs.declared.declared.Shape.{Shape}
use Rattle.gos_verilog.specs.declared.port_net.Role.{Role}
use Rattle.gos_verilog.specs.declared.port_net.Role.TheVariants.{Run, Ask, AnsValue, Read, WriteValue}
use Rattle.gos_verilog.specs.PortNets.{PortNet, suffix, direction, roles}
use Rattle.gos_verilog.specs.Lines.{direction_word, port_declaration, declaration, cell_net, assignment, driver_of}
use Rattle.gos_verilog.specs.inner.Drivers.{is_register}
use Rattle.gos_verilog.specs.inner.Stages.{IsNetName, word_of}
use Rattle.gos_verilog.specs.inner.Breaks.{Left, Item, LeadsOn}
use Rattle.gos_verilog.specs.Place.{IsFormedText}

-- a net of a port and what may be left behind it: its assignment, if it is an output
abbrev pub LeftOutput : Bool → List ℕ → Left → Left
LeftOutput true name L = L
LeftOutput false name L = Item ℕ IsNumber (λ n. assignment name (cell_net n)) (λ _. L)

-- the assignments of the outputs among these nets, and the module's end
abbrev pub LeftOutputs : List PortNet → Left
LeftOutputs [] = IsJust (codes "endmodule\n")
LeftOutputs (net ∷ nets) = LeftOutput net.input net.name (LeftOutputs nets)

-- a name is that of an input of so many bits
abbrev pub IsSource : List PortNet → ℕ → List ℕ → Type 0
IsSource nets w source =
    (k : ℕ) × (net : PortNet) × (slice_get nets k ≡ Some net) × (net.input ≡ true) × (net.width ≡ w) × (source ≡ net.name)

-- a function for the net of a cell of this shape, and the input that it reads, if it reads one
pub record IsDriver (nets : List PortNet) (shape : Shape) (v : Function × List ℕ) : Type 0 where
  pub kind : is_register v.0 ≡ shape.register
  pub fits : OperandsFit shape.width v.0
  pub fed : v.0 ≡ Input → IsSource nets shape.width v.1
  pub bare : (v.0 ≡ Input → ⊥) → v.1 ≡ []

abbrev pub driver_text : ℕ → Shape → Function × List ℕ → List ℕ
driver_text i shape v = driver_of i shape.width v.1 v.0

-- the line of a cell
abbrev pub IsDriverLine : List PortNet → ℕ → Shape → List ℕ → Type 0
IsDriverLine nets i shape = IsTextOf (Function × List ℕ) (IsDriver nets shape) (driver_text i shape)

-- that of a wire that is no Input
abbrev pub IsWireLine : ℕ → ℕ → List ℕ → Type 0
IsWireLine i w = IsTextOf Function (λ f. (is_register f ≡ false) × (f ≡ Input → ⊥) × OperandsFit w f) (driver_of i w [])

-- the nets have names of nets
abbrev pub HaveNetNames : List PortNet → Type 0
HaveNetNames = AllByRecursion (λ n. IsNetName n.name)

-- the lines that drive the nets of cells of these shapes, of which the first has number i
abbrev pub LeftDrivers : List PortNet → ℕ → List Shape → Left
LeftDrivers nets i [] = LeftOutputs nets
LeftDrivers nets i (shape ∷ shapes) = Item (Function × List ℕ) (IsDriver nets shape) (driver_text i shape) (λ _. LeftDrivers nets (suc i) shapes)

-- a shape of the format
abbrev pub IsShape : Shape → Type 0
IsShape shape = IsWidth shape.width

abbrev pub shape_text : ℕ → Shape → List ℕ
shape_text i shape = declaration (word_of shape.register) shape.width (cell_net i)

-- the declaration of the net of cell i
abbrev pub IsShapeLine : ℕ → List ℕ → Type 0
IsShapeLine i = IsTextOf Shape IsShape (shape_text i)

-- that of a register or a wire, and what stands before its range
abbrev pub IsShapeOf : Bool → ℕ → List ℕ → Type 0
IsShapeOf register i = IsTextOf ℕ IsWidth (λ w. shape_text i (record { width = w; register = register }))

abbrev pub shape_front : Bool → List ℕ
shape_front register = codes "  " ++ word_of register ++ codes " ["

-- there are as many cells as there may be, or none is declared here
abbrev pub NoShape : ℕ → List ℕ → ℕ → ℕ → Type 0
NoShape n text at place = ((n ≡ 4294967295) × (place ≡ at)) ⊎ ((n < 4294967295) × Misses (IsShapeLine n) text at place)

-- the declarations of the nets of cells of these shapes, of which the first has number i
abbrev pub shapes_text : ℕ → List Shape → List ℕ
shapes_text i [] = []
shapes_text i (shape ∷ shapes) = shape_text i shape ++ shapes_text (suc i) shapes

-- declarations of cells' nets behind those of these shapes, and the lines that drive them all
abbrev pub LeftCells : List PortNet → List Shape → Left
LeftCells nets before bytes =
    (more : List Shape) × (rest : List ℕ) × AllByRecursion IsShape more × IsNumber (length (before ++ more)) × LeftDrivers nets 0 (before ++ more) rest
    × (bytes ≡ shapes_text (length before) more ++ rest)

-- one more at least
abbrev pub LeftShape : List PortNet → List Shape → Left
LeftShape nets before =
    Item Shape (λ s. IsShape s × (length before < 4294967295)) (shape_text (length before)) (λ s. LeftCells nets (before ++ s ∷ []))

-- the first net of a port tells its side
abbrev pub is_first : Role → Bool
is_first Run = true
is_first Ask = true
is_first Read = true
is_first role = false

-- The range of a net's last bit, where `last` is that of its port's value: a pulse has one bit, the first value of a port
-- any bits of the format, and the second as many as the first.
abbrev pub least_of : Role → ℕ → ℕ
least_of WriteValue last = last
least_of role last = 0

abbrev pub most_of : Role → ℕ → ℕ
most_of AnsValue last = LAST_BIT
most_of WriteValue last = last
most_of role last = 0

-- a direction is open, or it is the one that is wanted
abbrev pub IsDirection : Bool → Bool → Bool → Type 0
IsDirection true wanted input = Unit {0}
IsDirection false wanted input = input ≡ wanted

-- the direction and the last bit of a net in this role, at a port of this side
abbrev pub IsDeclared : Role → Side → ℕ → Bool × ℕ → Type 0
IsDeclared role side last v = IsDirection (is_first role) (is_input side (direction role)) v.0 × IsInRange (least_of role last) (most_of role last) v.1

-- the net of this name with this direction and last bit
abbrev pub net_of : List ℕ → Bool × ℕ → PortNet
net_of name v = record { name = name; input = v.0; width = v.1 + 1; cell = 0 }

abbrev pub net_text : List ℕ → Bool × ℕ → List ℕ
net_text name v = port_declaration (net_of name v)

-- what is known of a port's side and of the last bit of its value behind a net
abbrev pub side_of_input : Bool → Side
side_of_input true = Give
side_of_input false = Take

abbrev pub side_behind : Bool → Side → Bool → Side
side_behind true side input = side_of_input input
side_behind false side input = side

abbrev pub last_behind : Role → ℕ → ℕ → ℕ
last_behind AnsValue last n = n
last_behind role last n = last

-- declarations of the nets of ports with these roles and names behind those of other nets, and the rest of the text
abbrev pub LeftNets : List PortNet → Side → ℕ → List (Role × List ℕ) → Left
LeftNets before side last [] = LeftCells before []
LeftNets before side last (named ∷ more) =
    Item (Bool × ℕ) (IsDeclared named.0 side last) (net_text named.1)
    (λ v. LeftNets (before ++ net_of named.1 v ∷ []) (side_behind (is_first named.0) side v.0) (last_behind named.0 last v.1) more)

-- the nets of ports, with their roles and names
abbrev pub named_in_roles : List ℕ → List ℕ → List Role → List (Role × List ℕ)
named_in_roles name [] rs = []
named_in_roles name (c ∷ cells) [] = []
named_in_roles name (c ∷ cells) (r ∷ rs) = (r, name ++ suffix r) ∷ named_in_roles name cells rs

abbrev pub named_nets : List NetPort → List (Role × List ℕ)
named_nets [] = []
named_nets (p ∷ ports) = named_in_roles p.name p.nets (roles p.ty) ++ named_nets ports

-- a name is that of a net in this role
abbrev pub IsNamed : Role × List ℕ → Type 0
IsNamed n = (front : List ℕ) × (n.1 ≡ front ++ suffix n.0)

abbrev pub only_names : List (Role × List ℕ) → List (List ℕ)
only_names = map (λ (n : Role × List ℕ). n.1)

-- the names are those of nets in these roles
abbrev pub AreNamed : List (Role × List ℕ) → List (Bor (List ℕ)) → Type 0
AreNamed named names = (map (λ (b : Bor (List ℕ)). b.now) names ≡ only_names named) × AllByRecursion IsNamed named

-- the declaration of a net in a role
abbrev pub IsDeclaration : Role → Side → ℕ → List ℕ → List ℕ → Type 0
IsDeclaration role side last name = IsTextOf (Bool × ℕ) (IsDeclared role side last) (net_text name)

-- that of a net of this direction
abbrev pub IsNetOf : Bool → ℕ → ℕ → List ℕ → List ℕ → Type 0
IsNetOf input low high name = IsTextOf ℕ (IsInRange low high) (λ n. net_text name (input, n))

abbrev pub net_front : Bool → List ℕ
net_front input = codes "  " ++ direction_word input ++ codes " ["

-- the front of a text leads from its start to the declarations of cells' nets behind those of these nets of ports
abbrev pub LeadsOnOf : List ℕ → ℕ → List PortNet → Type 0
LeadsOnOf text at nets = LeadsOn IsFormedText (LeftCells nets []) (record { text = text; at = 0 }) (record { text = text; at = at }) × HaveNetNames nets
