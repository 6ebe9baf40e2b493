-- The gates of a sequence: the first part runs, then the second, and then the caller is answered.
--
-- Read first: Firing of gos_plan; Gates and Law of gos_macro. Handshake 0 asks for the first part, 1 for the second, and 2 is
-- served. Nothing is stored, and while a part runs no token lies at a joint of the sequence: where it stands is told
-- by the handshake at which its next token comes, so that these gates stand for each state.
use Rattle.std.specs.Prelude.{ℕ, zero, suc, ◌+◌, List, [], ◌∷◌}
use Rattle.gos_netlist.specs.Nets.{Cell, Gate}
use Rattle.gos_netlist.specs.Settling.{Numbers}
use Rattle.gos_plan.specs.Firing.{Phase, Rest, First, Second, State}
use Rattle.gos_macro.specs.Gates.{Incoming, Outgoing, Bare, Bearing}
use Rattle.gos_macro.specs.Cells.{wide, buffer}

-- The caller's request asks for the first part, and that part's answer for the second. The answer of the second one
-- is passed on. No cell names another, so they are the same wherever they stand.
abbrev pub seq_com_layout : Incoming → List Cell
seq_com_layout i = buffer (i.pulse 2) ∷ buffer (i.pulse 0) ∷ buffer (i.pulse 1) ∷ []

-- the same, where the second part answers a number of w bits
abbrev pub seq_exp_layout : ℕ → Incoming → List Cell
seq_exp_layout w i =
    buffer (i.pulse 2)
    ∷ buffer (i.pulse 0)
    ∷ buffer (i.pulse 1)
    ∷ wide w (Gate (i.pulse 1) (i.value 1)) ∷ []

-- the nets that go out
abbrev pub seq_com_outs : ℕ → List Outgoing
seq_com_outs b = Bare (b + 0) ∷ Bare (b + 1) ∷ Bare (b + 2) ∷ []

abbrev pub seq_exp_outs : ℕ → List Outgoing
seq_exp_outs b = Bare (b + 0) ∷ Bare (b + 1) ∷ Bearing (b + 2) (b + 3) ∷ []

-- the cells of a sequence that ends with v bits, where a command has 0, and the nets that go out of them
abbrev pub seq_layout : ℕ → Incoming → List Cell
seq_layout zero = seq_com_layout
seq_layout (suc v) = seq_exp_layout (suc v)

abbrev pub seq_outs : ℕ → ℕ → List Outgoing
seq_outs zero = seq_com_outs
seq_outs (suc v) = seq_exp_outs

-- a sequence is at rest, or at its first or second part
abbrev pub IsSeqPhase : Phase → Type 0
IsSeqPhase Rest = Unit {0}
IsSeqPhase First = Unit {0}
IsSeqPhase Second = Unit {0}
IsSeqPhase p = ⊥

-- each state is stood for, by no registers
abbrev pub seq_stands : ℕ → Numbers → State → Type 0
seq_stands b regs q = IsSeqPhase q.phase
