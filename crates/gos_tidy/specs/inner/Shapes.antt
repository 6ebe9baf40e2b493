-- Cells as keys of tables, and back.
--
-- Read first: Nets of gos_netlist.
use Rattle.std.specs.Prelude.{ℕ}
use Rattle.gos_netlist.specs.Nets.{Function, Input, Const, Not, And, Or, Xor, Mux, Add, Sub, Eq, Less, Gate, Reg, Cell}
use Rattle.gos_tidy.specs.declared.shape.Kind.{Kind}
use Rattle.gos_tidy.specs.declared.shape.Kind.TheVariants as kind
use Rattle.gos_tidy.specs.declared.shape.Shape.{Shape}

-- the shape of a cell that names at most three nets
abbrev pub nets : ℕ → Kind → ℕ → ℕ → ℕ → Shape
nets w k a b c = record { width = w; kind = k; first = a; second = b; third = c; number = 0 }

-- the shape of a cell
abbrev pub shape_in : ℕ → Function → Shape
shape_in w Input = nets w kind.Input 0 0 0
shape_in w (Const k) = record { width = w; kind = kind.Const; first = 0; second = 0; third = 0; number = k }
shape_in w (Not a) = nets w kind.Not a 0 0
shape_in w (And a b) = nets w kind.And a b 0
shape_in w (Or a b) = nets w kind.Or a b 0
shape_in w (Xor a b) = nets w kind.Xor a b 0
shape_in w (Mux s a b) = nets w kind.Mux s a b
shape_in w (Add a b) = nets w kind.Add a b 0
shape_in w (Sub a b) = nets w kind.Sub a b 0
shape_in w (Eq a b) = nets w kind.Eq a b 0
shape_in w (Less a b) = nets w kind.Less a b 0
shape_in w (Gate s a) = nets w kind.Gate s a 0
shape_in w (Reg a) = nets w kind.Reg a 0 0

abbrev pub shape_of : Cell → Shape
shape_of c = shape_in c.width c.gate

-- the function of a shape
abbrev pub function_by : Kind → ℕ → ℕ → ℕ → ℕ → Function
function_by kind.Input a b c k = Input
function_by kind.Const a b c k = Const k
function_by kind.Not a b c k = Not a
function_by kind.And a b c k = And a b
function_by kind.Or a b c k = Or a b
function_by kind.Xor a b c k = Xor a b
function_by kind.Mux a b c k = Mux a b c
function_by kind.Add a b c k = Add a b
function_by kind.Sub a b c k = Sub a b
function_by kind.Eq a b c k = Eq a b
function_by kind.Less a b c k = Less a b
function_by kind.Gate a b c k = Gate a b
function_by kind.Reg a b c k = Reg a

abbrev pub cell_by : Shape → Cell
cell_by s = record { width = s.width; gate = function_by s.kind s.first s.second s.third s.number }
