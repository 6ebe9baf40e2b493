-- The gates of a literal.
--
-- Read first: Cells of gos_macro. Handshake 0 is served. No state is held.
use Rattle.std.specs.Prelude.{ℕ, ◌+◌, List, [], ◌∷◌}
use Rattle.gos_netlist.specs.Nets.{Cell, Const, Gate}
use Rattle.gos_netlist.specs.Settling.{Numbers}
use Rattle.gos_plan.specs.Firing.{Phase, Rest, State}
use Rattle.gos_macro.specs.Gates.{Incoming, Outgoing, Bearing}
use Rattle.gos_macro.specs.Cells.{wide, buffer}

-- cell 1 is the number, which is let through with the request
abbrev pub lit_cells : ℕ → ℕ → ℕ → Incoming → List Cell
lit_cells w k b i = buffer (i.pulse 0) ∷ wide w (Const k) ∷ wide w (Gate (i.pulse 0) (b + 1)) ∷ []

abbrev pub lit_outs : ℕ → List Outgoing
lit_outs b = Bearing (b + 0) (b + 2) ∷ []

-- a literal is always at rest
abbrev pub IsLitPhase : Phase → Type 0
IsLitPhase Rest = Unit {0}
IsLitPhase p = ⊥

abbrev pub lit_stands : ℕ → Numbers → State → Type 0
lit_stands b regs q = IsLitPhase q.phase
