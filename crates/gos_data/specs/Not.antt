-- The gates of a complement.
--
-- Read first: Cells of gos_macro. Handshake 0 asks for a number; 1 is served. No state is held: see Waiting.
use Rattle.std.specs.Prelude.{ℕ, ◌+◌, List, [], ◌∷◌}
use Rattle.gos_netlist.specs.Nets.{Not, Gate, Cell}
use Rattle.gos_macro.specs.Gates.{Incoming, Outgoing, Bare, Bearing}
use Rattle.gos_macro.specs.Cells.{wide, buffer}

-- cell 2 turns all bits of the number, which are let through with it: else all of them would be 1 without a number
abbrev pub not_cells : ℕ → ℕ → Incoming → List Cell
not_cells w b i =
    buffer (i.pulse 1) ∷ buffer (i.pulse 0) ∷ wide w (Not (i.value 0)) ∷ wide w (Gate (i.pulse 0) (b + 2)) ∷ []

abbrev pub not_outs : ℕ → List Outgoing
not_outs b = Bare (b + 0) ∷ Bearing (b + 1) (b + 3) ∷ []
