-- How clauses see the netlists of this crate's program: as those of Nets.
use Rattle.std.specs.Prelude.{ℕ}
use Rattle.gos_types.specs.Types.{Type', Com, Exp, Var}
use Rattle.gos_netlist.specs.declared.nets.NetId.{NetId}
use Rattle.gos_netlist.specs.declared.nets.Gate as declared
use Rattle.gos_netlist.specs.declared.nets.Gate.TheVariants as gates
use Rattle.gos_netlist.specs.declared.nets.Cell as cells
use Rattle.gos_netlist.specs.declared.nets.Side as sides
use Rattle.gos_netlist.specs.declared.nets.Side.TheVariants as side
use Rattle.gos_netlist.specs.declared.nets.Ground as grounds
use Rattle.gos_netlist.specs.declared.nets.Ground.TheVariants as carried
use Rattle.gos_netlist.specs.Nets.{Function, Input, Const, Not, And, Or, Xor, Mux, Add, Sub, Eq, Less, Gate, Reg, Cell, Side, Give, Take}

-- the number of a net
abbrev pub number_of : NetId → ℕ
number_of net = net.0

-- what a gate computes
abbrev pub function_of : declared.Gate → Function
function_of gates.Input = Input
function_of (gates.Const k) = Const k
function_of (gates.Not a) = Not a.0
function_of (gates.And a b) = And a.0 b.0
function_of (gates.Or a b) = Or a.0 b.0
function_of (gates.Xor a b) = Xor a.0 b.0
function_of (gates.Mux s a b) = Mux s.0 a.0 b.0
function_of (gates.Add a b) = Add a.0 b.0
function_of (gates.Sub a b) = Sub a.0 b.0
function_of (gates.Eq a b) = Eq a.0 b.0
function_of (gates.Less a b) = Less a.0 b.0
function_of (gates.Gate s a) = Gate s.0 a.0
function_of (gates.Reg a) = Reg a.0

-- a cell, with what its gate computes
abbrev pub cell_of : cells.Cell → Cell
cell_of c = record { width = c.width; gate = function_of c.gate }

-- the side of a port
abbrev pub side_of : sides.Side → Side
side_of side.Give = Give
side_of side.Take = Take

-- the type of a port
abbrev pub ground_type : grounds.Ground → Type'
ground_type carried.Com = Com
ground_type (carried.Exp w) = Exp w
ground_type (carried.Var w) = Var w
