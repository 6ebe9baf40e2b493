-- Small gates that keep the law: those of Skip, and those of a Share of a command, which fires from three sides. And others
-- that don't, or that keep only one of the two laws.
--
-- Read first: Law.
use Rattle.std.specs.Prelude.{◌≡◌, ℕ, ◌+◌, ◌≤◌, false, List, [], ◌∷◌, nat_eq, if◌then◌else◌}
use Rattle.gos_types.specs.Types.{Com, Exp, Pair}
use Rattle.gos_netlist.specs.Nets.{Cell, Const, Not, And, Or, Gate, Reg}
use Rattle.gos_netlist.specs.Settling.{Numbers, at}
use Rattle.gos_plan.specs.Kinds.{Skip, If, While, Deref, Share}
use Rattle.gos_plan.specs.Firing.{Phase, Rest, Test, Branch, State, Slot, Req, Ans, Token, put, at as at_phase}
use Rattle.gos_plan.specs.Firings.{Asked, Fires}
use Rattle.gos_macro.specs.Gates.{Incoming, Outgoing, Bare, Bearing, held, nothing_pending}
use Rattle.gos_macro.specs.Cells.{bit, buffer}
use Rattle.gos_macro.specs.Law.{Order, early_in_order, GatesLaw, LawInOrder, StaySilent}
use Rattle.gos_macro.specs.Kept.{KeepLawsInEachOrder}

-- the request is the answer
abbrev pub skip_cells : ℕ → Incoming → List Cell
skip_cells b i = buffer (i.pulse 0) ∷ []

abbrev pub skip_outs : ℕ → List Outgoing
skip_outs b = Bare (b + 0) ∷ []

abbrev pub skip_stands : ℕ → Numbers → State → Type 0
skip_stands b regs q = q.phase ≡ Rest

abbrev pub SkipGates : Type 0
SkipGates = KeepLawsInEachOrder Skip skip_cells skip_outs [] nothing_pending skip_stands

-- Cell 3 is the branch, and cell 6 the request to the source, which comes a cycle later. The answer goes to the branch.
abbrev pub shared_cells : ℕ → Incoming → List Cell
shared_cells b i =
    bit (Not (i.pulse 1))
    ∷ bit (And (b + 3) (b + 0))
    ∷ bit (Or (i.pulse 2) (b + 1))
    ∷ bit (Reg (b + 2))
    ∷ bit (Not (b + 3))
    ∷ bit (Or (i.pulse 1) (i.pulse 2))
    ∷ bit (Reg (b + 5))
    ∷ bit (And (i.pulse 0) (b + 4))
    ∷ bit (And (i.pulse 0) (b + 3)) ∷ []

abbrev pub shared_outs : ℕ → List Outgoing
shared_outs b = Bare (b + 6) ∷ Bare (b + 7) ∷ Bare (b + 8) ∷ []

abbrev pub shared_late : List ℕ
shared_late = 1 ∷ 2 ∷ []

abbrev pub shared_pending : ℕ → Numbers → List Token
shared_pending b regs = held (Req 0) (at regs (b + 6))

pub record SharedStands (b : ℕ) (regs : Numbers) (q : State) : Type 0 where
  pub rests : q.phase ≡ Rest
  pub branch : q.number ≡ at regs (b + 3)
  pub one : at regs (b + 3) ≤ 1
  pub held : at regs (b + 6) ≤ 1

abbrev pub SharedGates : Type 0
SharedGates = KeepLawsInEachOrder (Share Com) shared_cells shared_outs shared_late shared_pending SharedStands

-- gates of Skip that answer nothing don't keep the law
abbrev pub silent_cells : ℕ → Incoming → List Cell
silent_cells b i = bit (Const 0) ∷ []

abbrev pub SilenceIsNoAnswer : Type 0
SilenceIsNoAnswer = LawInOrder Skip silent_cells skip_outs [] nothing_pending skip_stands (λ h. 0) → ⊥

-- The gates of a choice between two commands whose request goes on in the same cycle. The answer of the test asks for the first
-- command where it is 1, and else for the second. What either answers is passed on.
abbrev pub choice_cells : ℕ → Incoming → List Cell
choice_cells b i =
    buffer (i.pulse 3)
    ∷ bit (And (i.pulse 0) (i.value 0))
    ∷ bit (Not (i.value 0))
    ∷ bit (And (i.pulse 0) (b + 2))
    ∷ bit (Or (i.pulse 1) (i.pulse 2)) ∷ []

abbrev pub choice_outs : ℕ → List Outgoing
choice_outs b = Bare (b + 0) ∷ Bare (b + 1) ∷ Bare (b + 3) ∷ Bare (b + 4) ∷ []

abbrev pub IsChoice : Phase → Type 0
IsChoice Rest = Unit {0}
IsChoice Test = Unit {0}
IsChoice Branch = Unit {0}
IsChoice p = ⊥

abbrev pub choice_stands : ℕ → Numbers → State → Type 0
choice_stands b regs q = IsChoice q.phase

-- By its rows a choice can end a run, begin another and end that too, all in one cycle. Then two answers are due on one net,
-- so these gates don't keep the law that asks for each handshake to be shown. By the other law nothing is said of this net.
abbrev pub ChoiceShowsOne : Type 0
ChoiceShowsOne = GatesLaw (If 0) choice_cells choice_outs [] nothing_pending choice_stands → ⊥

-- The gates of a repeated command whose first test is asked for in the same cycle. Cell 0 is the register of a later request: it
-- or the caller's one asks for the test, whose answer asks for the command where it is 1, and else answers the caller.
abbrev pub repeat_cells : ℕ → Incoming → List Cell
repeat_cells b i =
    bit (Reg (i.pulse 1))
    ∷ bit (Or (b + 0) (i.pulse 2))
    ∷ bit (And (i.pulse 0) (i.value 0))
    ∷ bit (Not (i.value 0))
    ∷ bit (And (i.pulse 0) (b + 3)) ∷ []

abbrev pub repeat_outs : ℕ → List Outgoing
repeat_outs b = Bare (b + 1) ∷ Bare (b + 2) ∷ Bare (b + 4) ∷ []

abbrev pub repeat_pending : ℕ → Numbers → List Token
repeat_pending b regs = held (Req 0) (at regs (b + 0))

abbrev pub repeat_stands : ℕ → Numbers → State → Type 0
repeat_stands b regs q = at regs (b + 0) ≡ 1 → q.phase ≡ Test

-- By its rows it can ask for a test, end there, and be asked to run again, all in one cycle. Then two requests of the test are due.
abbrev pub RepeatShowsOne : Type 0
RepeatShowsOne = GatesLaw While repeat_cells repeat_outs (1 ∷ []) repeat_pending repeat_stands → ⊥

-- The gates of a Share of a command that passes on all that comes in within the cycle. Cell 3 is the register of the branch,
-- and cell 2 the branch that the requests of this cycle leave. The source's answer goes to the caller of the branch that net
-- `branch` shows.
abbrev pub passing_cells : ℕ → ℕ → Incoming → List Cell
passing_cells branch b i =
    bit (Not (i.pulse 1))
    ∷ bit (And (b + 3) (b + 0))
    ∷ bit (Or (i.pulse 2) (b + 1))
    ∷ bit (Reg (b + 2))
    ∷ bit (Not (b + branch))
    ∷ bit (Or (i.pulse 1) (i.pulse 2))
    ∷ bit (And (i.pulse 0) (b + 4))
    ∷ bit (And (i.pulse 0) (b + branch)) ∷ []

abbrev pub passing_outs : ℕ → List Outgoing
passing_outs b = Bare (b + 5) ∷ Bare (b + 6) ∷ Bare (b + 7) ∷ []

-- by the branch of the register, as where the answer comes before all requests, and by that behind them
abbrev pub answer_first_cells : ℕ → Incoming → List Cell
answer_first_cells = passing_cells 3

abbrev pub answer_last_cells : ℕ → Incoming → List Cell
answer_last_cells = passing_cells 2

pub record PassingStands (b : ℕ) (regs : Numbers) (q : State) : Type 0 where
  pub rests : q.phase ≡ Rest
  pub branch : q.number ≡ at regs (b + 3)
  pub one : at regs (b + 3) ≤ 1

-- Gates for one order do what the part does in this order, and not what it does in another.
abbrev pub AnswerGatesInOrder : Order → Type 0
AnswerGatesInOrder = LawInOrder (Share Com) answer_first_cells passing_outs [] nothing_pending PassingStands

abbrev pub GatesOfTheOrder : Type 0
GatesOfTheOrder = AnswerGatesInOrder (λ h. 0)

-- the ranks of handshakes 1 and 2 are the same, and that of handshake 0 is higher
abbrev pub last_first : Order
last_first h = if nat_eq h 0 then 1 else 0

-- in this order both callers' requests of a Share of a command come before its source's answer
abbrev pub RequestsFirst : Type 0
RequestsFirst = early_in_order (Share Com) [] last_first 2 ≡ Req 1 ∷ Req 2 ∷ Ans 0 ∷ []

-- and by number alone they come behind it
abbrev pub AnswerFirst : Type 0
AnswerFirst = early_in_order (Share Com) [] (λ h. 0) 1 ≡ Ans 0 ∷ Req 1 ∷ Req 2 ∷ []

abbrev pub GatesOfAnotherOrder : Type 0
GatesOfAnotherOrder = AnswerGatesInOrder last_first → ⊥

-- so they don't keep the laws in each order
abbrev pub OrderCounts : Type 0
OrderCounts = KeepLawsInEachOrder (Share Com) answer_first_cells passing_outs [] nothing_pending PassingStands → ⊥

-- In which order callers ask tells to whom a Share answers, which is the last one. Here two ask in one cycle at two
-- handshakes of a type, the second caller for a command and the first one for a number.
abbrev pub CallersLeave : List Slot → ℕ → List Token → Type 0
CallersLeave fs n ts = (o : Asked) × Fires (Share (Pair Com (Exp 1))) (λ h. 0) (λ h. false) (at_phase Rest 0) fs o (at_phase Rest n) ts

abbrev pub SecondAsksFirst : Type 0
SecondAsksFirst = CallersLeave (Req 4 ∷ Req 3 ∷ []) 0 (put (Req 0) 0 ∷ put (Req 1) 0 ∷ [])

abbrev pub SecondAsksLast : Type 0
SecondAsksLast = CallersLeave (Req 3 ∷ Req 4 ∷ []) 1 (put (Req 1) 0 ∷ put (Req 0) 0 ∷ [])

abbrev pub OrderIsSeen : Type 0
OrderIsSeen = (ts : List Token) → CallersLeave (Req 4 ∷ Req 3 ∷ []) 1 ts → ⊥

-- A number that comes in is held, and its pulse beside it: cells 1 and 2. It goes out as it is held, or by its pulse (cell 3).
abbrev pub holding_cells : ℕ → Incoming → List Cell
holding_cells b i =
    buffer (i.pulse 1)
    ∷ bit (Reg (i.pulse 0))
    ∷ bit (Reg (i.value 0))
    ∷ bit (Gate (b + 1) (b + 2)) ∷ []

abbrev pub HoldsSilently : Type 0
HoldsSilently = StaySilent (Deref 1) holding_cells (λ b. Bare (b + 0) ∷ Bearing (b + 1) (b + 3) ∷ [])

abbrev pub HeldIsNotSilent : Type 0
HeldIsNotSilent = StaySilent (Deref 1) holding_cells (λ b. Bare (b + 0) ∷ Bearing (b + 1) (b + 2) ∷ []) → ⊥
