-- The gates of a local variable.
--
-- Read first: Stored, BodyAnswer; Passing of gos_macro. Handshake 0 asks the body; 1 serves a read and 2 a write of the
-- variable; 3 is served. The body is asked a cycle after the request, and a write is answered a cycle after it came,
-- so that a read that follows either sees the new number.
use Rattle.std.specs.Prelude.{◌≡◌, ℕ, ◌+◌, ◌≤◌, List, [], ◌∷◌, ◌++◌}
use Rattle.gos_netlist.specs.Nets.{Not, Gate, Reg, Cell}
use Rattle.gos_netlist.specs.Settling.{Numbers, at}
use Rattle.gos_plan.specs.Firing.{Phase, Rest, Active, State, Req, Ans, Token}
use Rattle.gos_macro.specs.Gates.{Incoming, Outgoing, Bare, Bearing, held}
use Rattle.gos_macro.specs.Cells.{bit, wide, buffer}
use Rattle.gos_data.specs.Stored.{stored_cells}
use Rattle.gos_data.specs.BodyAnswer.{number_cells, body_answer}

-- Cell 7 holds the number, which a write sets and a request clears: cells 5 to 7 store it. Cell 0 holds the request to
-- the body, and cell 3 the answer to a write. Where the body is an expression its number is let through behind them.
abbrev pub variable_cells : ℕ → ℕ → Incoming → List Cell
variable_cells w b i =
    bit (Reg (i.pulse 3))
    ∷ buffer (i.pulse 1)
    ∷ wide w (Gate (i.pulse 1) (b + 7))
    ∷ bit (Reg (i.pulse 2))
    ∷ bit (Not (i.pulse 3))
    ∷ (stored_cells w (b + 5) (b + 6) (b + 7) (b + 4) (i.pulse 2) (i.value 2) ++ buffer (i.pulse 0) ∷ [])

abbrev pub local_cells : ℕ → ℕ → ℕ → Incoming → List Cell
local_cells w v b i = variable_cells w b i ++ number_cells v i

abbrev pub local_outs : ℕ → ℕ → List Outgoing
local_outs v b = Bare (b + 0) ∷ Bearing (b + 1) (b + 2) ∷ Bare (b + 3) ∷ body_answer v (b + 8) (b + 9) ∷ []

-- writes and requests are late
abbrev pub local_late : List ℕ
local_late = 2 ∷ 3 ∷ []

abbrev pub local_pending : ℕ → Numbers → List Token
local_pending b regs = held (Req 0) (at regs (b + 0)) ++ held (Ans 2) (at regs (b + 3))

-- at rest, or the body runs
abbrev pub IsLocalPhase : Phase → Type 0
IsLocalPhase Rest = Unit {0}
IsLocalPhase Active = Unit {0}
IsLocalPhase p = ⊥

-- the registers stand for the phase, and for the variable's number
pub record LocalStands (b : ℕ) (regs : Numbers) (q : State) : Type 0 where
  pub asked : at regs (b + 0) ≤ 1
  pub written : at regs (b + 3) ≤ 1
  pub number : q.number ≡ at regs (b + 7)
  pub phase : IsLocalPhase q.phase
