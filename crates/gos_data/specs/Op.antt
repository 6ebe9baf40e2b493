-- The gates of an operator.
--
-- Read first: Cells and Passing of gos_macro. Handshake 0 asks for the left number and 1 for the right one; 2 is served. The right number
-- is asked for as soon as the left one comes. Where both come in one cycle the left one is taken as it comes, else the one
-- that is held.
use Rattle.std.specs.Prelude.{◌≡◌, ℕ, ◌+◌, List, [], ◌∷◌}
use Rattle.gos_netlist.specs.Nets.{Function, And, Or, Xor, Mux, Add, Sub, Eq, Less, Gate, Reg, Cell}
use Rattle.gos_netlist.specs.Settling.{Numbers, at}
use Rattle.gos_model.specs.Terms.{Op as Operation, result_width}
use Rattle.gos_model.specs.Terms as operations
use Rattle.gos_plan.specs.Firing.{Phase, Rest, Left, Right, State}
use Rattle.gos_macro.specs.Gates.{Incoming, Outgoing, Bare, Bearing}
use Rattle.gos_macro.specs.Cells.{bit, wide, buffer}

-- the gate of an operator, from the nets of its operands
abbrev pub gate_of : Operation → ℕ → ℕ → Function
gate_of operations.Add a b = Add a b
gate_of operations.Sub a b = Sub a b
gate_of operations.And a b = And a b
gate_of operations.Or a b = Or a b
gate_of operations.Xor a b = Xor a b
gate_of operations.Eq a b = Eq a b
gate_of operations.Less a b = Less a b

-- Cell 2 holds the left number, and cell 6 says that the right one is awaited: a left number turns it, and so does a right
-- one (cells 7 and 8). Cell 9 is the left number of an answer: the one held where the right one is awaited, else the one that
-- comes. Cell 10 is the operator, whose result is let through with the right number. Cell 5 shows the right number's
-- pulse alone; cell 4 is there so that the left one's pulse leads to the answer as its number does.
abbrev pub op_cells : Operation → ℕ → ℕ → Incoming → List Cell
op_cells op w b i =
    buffer (i.pulse 2)
    ∷ wide w (Mux (i.pulse 0) (i.value 0) (b + 2))
    ∷ wide w (Reg (b + 1))
    ∷ buffer (i.pulse 0)
    ∷ bit (And (i.pulse 0) (i.pulse 1))
    ∷ bit (Or (i.pulse 1) (b + 4))
    ∷ bit (Reg (b + 8))
    ∷ bit (Xor (b + 6) (i.pulse 0))
    ∷ bit (Xor (b + 7) (i.pulse 1))
    ∷ wide w (Mux (b + 6) (b + 2) (i.value 0))
    ∷ wide (result_width op w) (gate_of op (b + 9) (i.value 1))
    ∷ wide (result_width op w) (Gate (i.pulse 1) (b + 10)) ∷ []

abbrev pub op_outs : ℕ → List Outgoing
op_outs b = Bare (b + 0) ∷ Bare (b + 3) ∷ Bearing (b + 5) (b + 11) ∷ []

-- whether the right number is awaited, as a bit
abbrev pub awaited : Phase → ℕ
awaited Right = 1
awaited p = 0

-- at rest, or one of the two numbers is awaited
abbrev pub IsOpPhase : Phase → Type 0
IsOpPhase Rest = Unit {0}
IsOpPhase Left = Unit {0}
IsOpPhase Right = Unit {0}
IsOpPhase p = ⊥

-- the registers stand for the phase, and for the left number that came last
pub record OpStands (b : ℕ) (regs : Numbers) (q : State) : Type 0 where
  pub waits : at regs (b + 6) ≡ awaited q.phase
  pub number : q.number ≡ at regs (b + 2)
  pub phase : IsOpPhase q.phase
