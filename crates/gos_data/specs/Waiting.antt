-- What registers stand for in a part that waits for one number: a complement, or a read. There are none.
use Rattle.std.specs.Prelude.{ℕ}
use Rattle.gos_netlist.specs.Settling.{Numbers}
use Rattle.gos_plan.specs.Firing.{Phase, Rest, Waiting, State}

-- at rest, or waiting for the number
abbrev pub IsWaitingPhase : Phase → Type 0
IsWaitingPhase Rest = Unit {0}
IsWaitingPhase Waiting = Unit {0}
IsWaitingPhase p = ⊥

abbrev pub waiting_stands : ℕ → Numbers → State → Type 0
waiting_stands b regs q = IsWaitingPhase q.phase
