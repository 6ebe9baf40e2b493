-- The gates of an assignment.
--
-- Read first: Cells of gos_macro. Handshake 0 asks for a number and 1 for its writing; 2 is served. No state is held:
-- the number is passed on in the cycle in which it comes.
use Rattle.std.specs.Prelude.{ℕ, ◌+◌, List, [], ◌∷◌}
use Rattle.gos_netlist.specs.Nets.{Gate, Cell}
use Rattle.gos_netlist.specs.Settling.{Numbers}
use Rattle.gos_plan.specs.Firing.{Phase, Rest, Value, Writing, State}
use Rattle.gos_macro.specs.Gates.{Incoming, Outgoing, Bare, Bearing}
use Rattle.gos_macro.specs.Cells.{wide, buffer}

-- the request goes to handshake 0, its answer to handshake 1 as a request, and the answer to that one is the answer
abbrev pub assign_cells : ℕ → Incoming → List Cell
assign_cells w i =
    buffer (i.pulse 2) ∷ buffer (i.pulse 0) ∷ wide w (Gate (i.pulse 0) (i.value 0)) ∷ buffer (i.pulse 1) ∷ []

abbrev pub assign_outs : ℕ → List Outgoing
assign_outs b = Bare (b + 0) ∷ Bearing (b + 1) (b + 2) ∷ Bare (b + 3) ∷ []

-- at rest, or waiting for the number or for the end of its writing
abbrev pub IsAssignPhase : Phase → Type 0
IsAssignPhase Rest = Unit {0}
IsAssignPhase Value = Unit {0}
IsAssignPhase Writing = Unit {0}
IsAssignPhase p = ⊥

abbrev pub assign_stands : ℕ → Numbers → State → Type 0
assign_stands b regs q = IsAssignPhase q.phase
