-- The gates of two commands that run side by side: the caller is answered when both are done.
--
-- Read first: Firing of gos_plan; Gates and Law of gos_macro. Handshakes 0 and 1 ask for the two commands, and 2 is served. A
-- register for each command says that it is done and the other is not.
use Rattle.std.specs.Prelude.{◌≡◌, ℕ, ◌+◌, List, [], ◌∷◌}
use Rattle.gos_netlist.specs.Nets.{Cell, And, Or, Xor, Reg}
use Rattle.gos_netlist.specs.Settling.{Numbers, at}
use Rattle.gos_plan.specs.Firing.{Phase, Rest, Both, LeftOnly, RightOnly, State}
use Rattle.gos_macro.specs.Gates.{Incoming, Outgoing, Bare}
use Rattle.gos_macro.specs.Cells.{bit, buffer}

-- Cells 0 and 1 are the requests, and cells 2 and 3 the registers. Cells 4 and 5 say that a command is done, now or
-- before, and cell 6 that both are, which is the answer. Cells 7 to 10 are what the registers will be: what they were
-- and what comes, less the answer. To clear them by the answer would be wrong: the same cycle may bring a first
-- answer of the next run.
abbrev pub par_layout : ℕ → Incoming → List Cell
par_layout b i =
    buffer (i.pulse 2)
    ∷ buffer (i.pulse 2)
    ∷ bit (Reg (b + 9))
    ∷ bit (Reg (b + 10))
    ∷ bit (Or (b + 2) (i.pulse 0))
    ∷ bit (Or (b + 3) (i.pulse 1))
    ∷ bit (And (b + 4) (b + 5))
    ∷ bit (Xor (b + 2) (i.pulse 0))
    ∷ bit (Xor (b + 3) (i.pulse 1))
    ∷ bit (Xor (b + 7) (b + 6))
    ∷ bit (Xor (b + 8) (b + 6)) ∷ []

-- the nets that go out
abbrev pub par_outs : ℕ → List Outgoing
par_outs b = Bare (b + 0) ∷ Bare (b + 1) ∷ Bare (b + 6) ∷ []

-- which phase two registers stand for: `RightOnly` waits for the right command alone, since the left one is done
abbrev pub ParPhase : Phase → ℕ → ℕ → Type 0
ParPhase Rest d e = (d ≡ 0) × (e ≡ 0)
ParPhase Both d e = (d ≡ 0) × (e ≡ 0)
ParPhase RightOnly d e = (d ≡ 1) × (e ≡ 0)
ParPhase LeftOnly d e = (d ≡ 0) × (e ≡ 1)
ParPhase p d e = ⊥

abbrev pub par_stands : ℕ → Numbers → State → Type 0
par_stands b regs q = ParPhase q.phase (at regs (b + 2)) (at regs (b + 3))
