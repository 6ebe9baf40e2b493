-- The gates of a choice: a test is asked for, and then one of two parts.
--
-- Read first: Firing of gos_plan; Gates and Law of gos_macro. Handshake 0 asks for the test, 1 and 2 for the two parts, and 3 is
-- served. Nothing is stored: where a choice stands is told by the handshake at which its next token comes, so that these
-- gates stand for each state. By the rows two runs could be answered in one cycle, and both answers would meet on one net; of
-- such a net the law says nothing.
use Rattle.std.specs.Prelude.{ℕ, zero, suc, ◌+◌, List, [], ◌∷◌}
use Rattle.gos_netlist.specs.Nets.{Cell, Not, And, Or, Mux, Gate}
use Rattle.gos_netlist.specs.Settling.{Numbers}
use Rattle.gos_plan.specs.Firing.{Phase, Rest, Test, Branch, State}
use Rattle.gos_macro.specs.Gates.{Incoming, Outgoing, Bare, Bearing}
use Rattle.gos_macro.specs.Cells.{bit, wide, buffer}

-- The caller's request asks for the test. The answer of the test asks for the first part where it is 1, and else for the
-- second. What either answers is passed on.
abbrev pub choice_com_layout : ℕ → Incoming → List Cell
choice_com_layout b i =
    buffer (i.pulse 3)
    ∷ bit (And (i.pulse 0) (i.value 0))
    ∷ bit (Not (i.value 0))
    ∷ bit (And (i.pulse 0) (b + 2))
    ∷ bit (Or (i.pulse 1) (i.pulse 2)) ∷ []

-- the same, where both parts answer a number of w bits
abbrev pub choice_exp_layout : ℕ → ℕ → Incoming → List Cell
choice_exp_layout w b i =
    buffer (i.pulse 3)
    ∷ bit (And (i.pulse 0) (i.value 0))
    ∷ bit (Not (i.value 0))
    ∷ bit (And (i.pulse 0) (b + 2))
    ∷ bit (Or (i.pulse 1) (i.pulse 2))
    ∷ wide w (Gate (i.pulse 1) (i.value 1))
    ∷ wide w (Mux (i.pulse 2) (i.value 2) (b + 5)) ∷ []

-- the nets that go out
abbrev pub choice_com_outs : ℕ → List Outgoing
choice_com_outs b = Bare (b + 0) ∷ Bare (b + 1) ∷ Bare (b + 3) ∷ Bare (b + 4) ∷ []

abbrev pub choice_exp_outs : ℕ → List Outgoing
choice_exp_outs b = Bare (b + 0) ∷ Bare (b + 1) ∷ Bare (b + 3) ∷ Bearing (b + 4) (b + 6) ∷ []

-- the cells of a choice of parts that answer v bits, where commands have 0, and the nets that go out of them
abbrev pub choice_layout : ℕ → ℕ → Incoming → List Cell
choice_layout zero = choice_com_layout
choice_layout (suc v) = choice_exp_layout (suc v)

abbrev pub choice_outs : ℕ → ℕ → List Outgoing
choice_outs zero = choice_com_outs
choice_outs (suc v) = choice_exp_outs

-- a choice is at rest, at its test, or at one of its parts
abbrev pub IsChoicePhase : Phase → Type 0
IsChoicePhase Rest = Unit {0}
IsChoicePhase Test = Unit {0}
IsChoicePhase Branch = Unit {0}
IsChoicePhase p = ⊥

-- each state is stood for, by no registers
abbrev pub choice_stands : ℕ → Numbers → State → Type 0
choice_stands b regs q = IsChoicePhase q.phase
