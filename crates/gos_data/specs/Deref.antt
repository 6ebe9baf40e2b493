-- The gates of a read.
--
-- Read first: Cells of gos_macro. Handshake 0 asks a variable for its number; 1 is served. No state is held: see
-- Waiting.
use Rattle.std.specs.Prelude.{ℕ, ◌+◌, List, [], ◌∷◌}
use Rattle.gos_netlist.specs.Nets.{Gate, Cell}
use Rattle.gos_macro.specs.Gates.{Incoming, Outgoing, Bare, Bearing}
use Rattle.gos_macro.specs.Cells.{wide, buffer}

-- the request is passed on, and so is the number
abbrev pub deref_cells : ℕ → Incoming → List Cell
deref_cells w i = buffer (i.pulse 1) ∷ buffer (i.pulse 0) ∷ wide w (Gate (i.pulse 0) (i.value 0)) ∷ []

abbrev pub deref_outs : ℕ → List Outgoing
deref_outs b = Bare (b + 0) ∷ Bearing (b + 1) (b + 2) ∷ []
