-- The lines that drive the nets of cells, as the reader passes them: kind by kind.
--
-- Read first: Slots; Lines. The cell's number, its bits and whether it is a register are known before its line.
use Rattle.std.specs.Prelude.{◌≡◌, ℕ, ◌-◌, ◌^◌, Bool, true, false, List, [], ◌∷◌, ◌++◌, Option, Some, None, codes, get_or}
use Rattle.gos_netlist.specs.Nets.{Function, Input, Const, Not, And, Or, Xor, Mux, Add, Sub, Eq, Less, Gate, Reg}
use Rattle.gos_netlist.specs.Writable.{OperandsFit}
use Rattle.gos_lex.specs.ItemTexts.{IsTextOf}
use Rattle.gos_verilog.specs.declared.cell_line.Kind.{Kind}
use Rattle.gos_verilog.specs.declared.cell_line.Kind.TheVariants as kinds
use Rattle.gos_verilog.specs.Lines.{driver_of}
use Rattle.gos_verilog.specs.inner.Slots.{Slot'}

-- the kind of a function that is no input
abbrev pub kind_of : Function → Option Kind
kind_of Input = None
kind_of (Const k) = Some kinds.Const
kind_of (Not a) = Some kinds.Not
kind_of (And a b) = Some kinds.And
kind_of (Or a b) = Some kinds.Or
kind_of (Xor a b) = Some kinds.Xor
kind_of (Mux s a b) = Some kinds.Mux
kind_of (Add a b) = Some kinds.Add
kind_of (Sub a b) = Some kinds.Sub
kind_of (Eq a b) = Some kinds.Eq
kind_of (Less a b) = Some kinds.Less
kind_of (Gate s a) = Some kinds.Gate
kind_of (Reg a) = Some kinds.Reg

-- a function of this kind, for a cell of w bits
abbrev pub HasKind : Kind → ℕ → Function → Type 0
HasKind kind w f = (kind_of f ≡ Some kind) × OperandsFit w f

-- the line of a cell whose function is of this kind
abbrev pub IsKindLine : Kind → ℕ → ℕ → List ℕ → Type 0
IsKindLine kind i w = IsTextOf Function (HasKind kind w) (driver_of i w [])

-- the net of a cell with a function of this kind is no register
abbrev pub is_wire : Kind → Bool
is_wire kinds.Reg = false
is_wire kind = true

-- the sign of a kind of two nets
abbrev pub sign : Kind → List ℕ
sign kinds.And = codes "&"
sign kinds.Or = codes "|"
sign kinds.Xor = codes "^"
sign kinds.Add = codes "+"
sign kinds.Sub = codes "-"
sign kinds.Eq = codes "=="
sign kinds.Less = codes "<"
sign kind = []

-- the word for a number, and for a net
abbrev pub exactly : List ℕ → ℕ → ℕ → Slot'
exactly word n end = record { before = word; low = n; high = n; end = end }

abbrev pub net_behind : List ℕ → ℕ → Slot'
net_behind word end = record { before = word; low = 0; high = 4294967295; end = end }

-- the slots of the lines
abbrev pub target_slot : ℕ → Slot'
target_slot i = exactly (codes "  assign n") i 32

abbrev pub const_slots : ℕ → ℕ → List Slot'
const_slots i w = target_slot i ∷ exactly (codes "= ") w 39 ∷ record { before = codes "d"; low = 0; high = 2 ^ w - 1; end = 59 } ∷ []

abbrev pub not_slots : ℕ → List Slot'
not_slots i = target_slot i ∷ net_behind (codes "= ~n") 59 ∷ []

abbrev pub binary_slots : ℕ → List ℕ → List Slot'
binary_slots i word = target_slot i ∷ net_behind (codes "= n") 32 ∷ net_behind word 59 ∷ []

abbrev pub mux_slots : ℕ → List Slot'
mux_slots i = target_slot i ∷ net_behind (codes "= n") 32 ∷ net_behind (codes "? n") 32 ∷ net_behind (codes ": n") 59 ∷ []

abbrev pub gate_slots : ℕ → ℕ → List Slot'
gate_slots i w = target_slot i ∷ net_behind (codes "= n") 32 ∷ net_behind (codes "? n") 32 ∷ exactly (codes ": ") w 39 ∷ []

abbrev pub reg_slots : ℕ → ℕ → List Slot'
reg_slots i w =
    exactly (codes "  always @(posedge clk) if (rst) n") i 32 ∷ exactly (codes "<= ") w 39 ∷ exactly (codes "d0; else n") i 32 ∷ net_behind (codes "<= n") 59 ∷ []

-- the slots of a line of this kind, for cell i of w bits
abbrev pub kind_slots : Kind → ℕ → ℕ → List Slot'
kind_slots kinds.Const i w = const_slots i w
kind_slots kinds.Not i w = not_slots i
kind_slots kinds.Mux i w = mux_slots i
kind_slots kinds.Gate i w = gate_slots i w
kind_slots kinds.Reg i w = reg_slots i w
kind_slots kind i w = binary_slots i (sign kind ++ codes " n")

-- what stands behind them
abbrev pub kind_tail : Kind → List ℕ
kind_tail kinds.Gate = codes "d0;\n"
kind_tail kind = codes "\n"

-- the function of this kind with the numbers of its line, of which the first is the cell's
abbrev pub made : Kind → List ℕ → Function
made kinds.Const ns = Const (get_or ns 2 0)
made kinds.Not ns = Not (get_or ns 1 0)
made kinds.And ns = And (get_or ns 1 0) (get_or ns 2 0)
made kinds.Or ns = Or (get_or ns 1 0) (get_or ns 2 0)
made kinds.Xor ns = Xor (get_or ns 1 0) (get_or ns 2 0)
made kinds.Mux ns = Mux (get_or ns 1 0) (get_or ns 2 0) (get_or ns 3 0)
made kinds.Add ns = Add (get_or ns 1 0) (get_or ns 2 0)
made kinds.Sub ns = Sub (get_or ns 1 0) (get_or ns 2 0)
made kinds.Eq ns = Eq (get_or ns 1 0) (get_or ns 2 0)
made kinds.Less ns = Less (get_or ns 1 0) (get_or ns 2 0)
made kinds.Gate ns = Gate (get_or ns 1 0) (get_or ns 2 0)
made kinds.Reg ns = Reg (get_or ns 3 0)
