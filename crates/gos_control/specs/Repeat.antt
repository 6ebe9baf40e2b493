-- The gates of a repeated command: it runs as long as a test is 1, which is asked before each run.
--
-- Read first: Firing of gos_plan; Gates and Law of gos_macro. Handshake 0 asks for the test, 1 for the command, and 2 is served.
-- The caller's request asks for the test at once. A register holds the request of a later test, behind the command's end: else
-- a command that is done at once would make a ring.
use Rattle.std.specs.Prelude.{◌≡◌, ◌≤◌, ℕ, ◌+◌, List, [], ◌∷◌}
use Rattle.gos_netlist.specs.Nets.{Cell, Not, And, Or, Reg}
use Rattle.gos_netlist.specs.Settling.{Numbers, at}
use Rattle.gos_plan.specs.Firing.{Phase, Rest, Test, Body, State, Req, Token}
use Rattle.gos_macro.specs.Gates.{Incoming, Outgoing, Bare, held}
use Rattle.gos_macro.specs.Cells.{bit}

-- Cell 0 is the register, of the command's end; it or the caller's request asks for the test. The answer of the test asks for
-- the command where it is 1, and else it answers the caller.
abbrev pub repeat_layout : ℕ → Incoming → List Cell
repeat_layout b i =
    bit (Reg (i.pulse 1))
    ∷ bit (Or (b + 0) (i.pulse 2))
    ∷ bit (And (i.pulse 0) (i.value 0))
    ∷ bit (Not (i.value 0))
    ∷ bit (And (i.pulse 0) (b + 3)) ∷ []

-- the nets that go out
abbrev pub repeat_outs : ℕ → List Outgoing
repeat_outs b = Bare (b + 1) ∷ Bare (b + 2) ∷ Bare (b + 4) ∷ []

-- the command's end is late
abbrev pub repeat_late : List ℕ
repeat_late = 1 ∷ []

abbrev pub repeat_pending : ℕ → Numbers → List Token
repeat_pending b regs = held (Req 0) (at regs (b + 0))

-- a repeated command is at rest, at its test, or runs
abbrev pub IsRepeatPhase : Phase → Type 0
IsRepeatPhase Rest = Unit {0}
IsRepeatPhase Test = Unit {0}
IsRepeatPhase Body = Unit {0}
IsRepeatPhase p = ⊥

-- the register holds the request of a later test, or it stands for any state
pub record RepeatStands (b : ℕ) (regs : Numbers) (q : State) : Type 0 where
  pub phase : IsRepeatPhase q.phase
  pub one : at regs (b + 0) ≤ 1
  pub tests : at regs (b + 0) ≡ 1 → q.phase ≡ Test
