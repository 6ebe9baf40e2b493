-- What a body answers with is let through by the part that runs it: a pulse, and a number where it is an expression.
--
-- Read first: Cells of gos_macro. Handshake 0 asks the body.
use Rattle.std.specs.Prelude.{ℕ, zero, suc, List, [], ◌∷◌}
use Rattle.gos_netlist.specs.Nets.{Gate, Cell}
use Rattle.gos_macro.specs.Gates.{Incoming, Outgoing, Bare, Bearing}
use Rattle.gos_macro.specs.Cells.{wide}

-- where the body is an expression of v bits, its number is let through
abbrev pub number_cells : ℕ → Incoming → List Cell
number_cells zero i = []
number_cells (suc v) i = wide (suc v) (Gate (i.pulse 0) (i.value 0)) ∷ []

-- what goes out to the one who runs the part: the pulse's net, and that of the number
abbrev pub body_answer : (v pulse number : ℕ) → Outgoing
body_answer zero pulse number = Bare pulse
body_answer (suc v) pulse number = Bearing pulse number
