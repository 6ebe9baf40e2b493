-- The gates of an array.
--
-- Read first: Words, BodyAnswer; Passing of gos_macro. Handshake 0 asks the body, and 1 the index of an access; 2 serves a read and 3 a write
-- of a number; 4 is served. Each is registered but the body's answer: the body is asked a cycle after the request, the index a
-- cycle after the access, and an access is answered a cycle after its index came.
use Rattle.std.specs.Prelude.{◌≡◌, ℕ, ◌+◌, ◌*◌, ◌≤◌, List, [], ◌∷◌, ◌++◌, nat_eq, if◌then◌else◌}
use Rattle.gos_netlist.specs.Nets.{Const, Not, And, Or, Mux, Gate, Reg, Cell}
use Rattle.gos_netlist.specs.Settling.{Numbers, at}
use Rattle.gos_model.specs.Typing.{index_width}
use Rattle.gos_plan.specs.Firing.{Phase, Rest, Cells, Reading, WritingTo, State, Req, Ans, Token, put}
use Rattle.gos_macro.specs.Gates.{Incoming, Outgoing, Bare, Bearing, held}
use Rattle.gos_macro.specs.Cells.{bit, wide, buffer}
use Rattle.gos_data.specs.Words.{WordNets, words_cells, picked_net, numbers_held}
use Rattle.gos_data.specs.BodyAnswer.{number_cells, body_answer}

-- The cells ahead of the words, which pick net `picked`. Cell 0 holds the request to the body, and cell 2 the one for the index.
-- Cell 6 tells whether the access is a write, and cell 8 holds what is written. Cell 10 is the index of a read and cell 11 that
-- of a write, and cells 12 and 13 hold the answers; cell 14 holds the number that is read, which cell 15 lets through.
abbrev pub array_head : (w b picked : ℕ) → Incoming → List Cell
array_head w b picked i =
    bit (Reg (i.pulse 4))
    ∷ bit (Or (i.pulse 2) (i.pulse 3))
    ∷ bit (Reg (b + 1))
    ∷ bit (Not (i.pulse 2))
    ∷ bit (And (b + 6) (b + 3))
    ∷ bit (Or (i.pulse 3) (b + 4))
    ∷ bit (Reg (b + 5))
    ∷ wide w (Mux (i.pulse 3) (i.value 3) (b + 8))
    ∷ wide w (Reg (b + 7))
    ∷ bit (Not (b + 6))
    ∷ bit (And (i.pulse 1) (b + 9))
    ∷ bit (And (i.pulse 1) (b + 6))
    ∷ bit (Reg (b + 10))
    ∷ bit (Reg (b + 11))
    ∷ wide w (Reg picked)
    ∷ wide w (Gate (b + 12) (b + 14))
    ∷ bit (Not (i.pulse 4))
    ∷ wide w (Const 0)
    ∷ buffer (i.pulse 0) ∷ []

-- what the words are told
abbrev pub array_nets : ℕ → Incoming → WordNets
array_nets b i = record { index = i.value 1; writes = b + 11; written = b + 8; stays = b + 16 }

-- the words of n numbers, which pick the 0 of cell 17 where no other is picked
abbrev pub array_words : (w n b : ℕ) → Incoming → List Cell
array_words w n b i = words_cells w (index_width n) (array_nets b i) b 19 0 (b + 17) n

-- all cells; where the body is an expression its number is let through behind the others
abbrev pub array_cells : (w n v b : ℕ) → Incoming → List Cell
array_cells w n v b i = array_head w b (picked_net b 19 (b + 17) n) i ++ (array_words w n b i ++ number_cells v i)

-- what goes out to the body, for the index, and to who reads or writes; and to the one who runs the array
abbrev pub own_outs : ℕ → List Outgoing
own_outs b = Bare (b + 0) ∷ Bare (b + 2) ∷ Bearing (b + 12) (b + 15) ∷ Bare (b + 13) ∷ []

abbrev pub array_outs : (n v b : ℕ) → List Outgoing
array_outs n v b = own_outs b ++ body_answer v (b + 18) (b + (19 + 7 * n)) ∷ []

-- all is late but the body's answer
abbrev pub array_late : List ℕ
array_late = 1 ∷ 2 ∷ 3 ∷ 4 ∷ []

-- the number that a read found, which registers hold
abbrev pub found : (pulse number : ℕ) → List Token
found pulse number = if nat_eq pulse 1 then put (Ans 2) number ∷ [] else []

abbrev pub array_pending : ℕ → Numbers → List Token
array_pending b regs =
    (found (at regs (b + 12)) (at regs (b + 14)) ++ held (Ans 3) (at regs (b + 13)))
    ++ (held (Req 0) (at regs (b + 0)) ++ held (Req 1) (at regs (b + 2)))

-- the words hold the numbers of the phase; at rest they may hold any
abbrev pub HoldNumbers : (n b : ℕ) → Numbers → Phase → Type 0
HoldNumbers n b regs Rest = Unit {0}
HoldNumbers n b regs (Cells ns) = numbers_held regs b 19 n ≡ ns
HoldNumbers n b regs (Reading ns) = numbers_held regs b 19 n ≡ ns
HoldNumbers n b regs (WritingTo ns) = numbers_held regs b 19 n ≡ ns
HoldNumbers n b regs p = ⊥

-- while an index is awaited, cell 6 tells for what, and cell 8 holds what is written
abbrev pub HoldAccess : ℕ → Numbers → Phase → ℕ → Type 0
HoldAccess b regs (Reading ns) k = at regs (b + 6) ≡ 0
HoldAccess b regs (WritingTo ns) k = (at regs (b + 6) ≡ 1) × (at regs (b + 8) ≡ k)
HoldAccess b regs p k = Unit {0}

-- the registers stand for the phase, and for its numbers
pub record ArrayStands (n b : ℕ) (regs : Numbers) (q : State) : Type 0 where
  pub entered : at regs (b + 0) ≤ 1
  pub asked : at regs (b + 2) ≤ 1
  pub writes : at regs (b + 6) ≤ 1
  pub read : at regs (b + 12) ≤ 1
  pub written : at regs (b + 13) ≤ 1
  pub numbers : HoldNumbers n b regs q.phase
  pub access : HoldAccess b regs q.phase q.number
