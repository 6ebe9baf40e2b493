-- Shares by order of a command, and of a pair of a command and an expression.
--
-- Read first: Order; SmallGates of gos_macro. A command's handshakes are its source's, 0, and those of caller 0 and 1.
use Rattle.std.specs.Prelude.{◌≡◌, ℕ, ◌+◌, true, false, List, [], ◌∷◌, nat_eq, if◌then◌else◌}
use Rattle.gos_types.specs.Types.{Com, Exp, Pair}
use Rattle.gos_netlist.specs.Nets.{Const, And, Or, Mux, Reg}
use Rattle.gos_plan.specs.Kinds.{contacts_of}
use Rattle.gos_macro.specs.Gates.{Incoming}
use Rattle.gos_macro.specs.Cells.{bit}
use Rattle.gos_macro.specs.Law.{Order}
use Rattle.gos_macro.specs.SmallGates.{last_first}
use Rattle.gos_fast_share.specs.Thread.{behind, when}
use Rattle.gos_fast_share.specs.Fast.{fast_cells, fast_passing}
use Rattle.gos_fast_share.specs.Order.{IsByRank, FastGates, FastLaw}

-- both callers' requests, and then the answer of the source; or the answer first
abbrev pub requests_first : List ℕ
requests_first = 1 ∷ 2 ∷ 0 ∷ []

abbrev pub answer_first : List ℕ
answer_first = 0 ∷ 1 ∷ 2 ∷ []

-- Where all come in one cycle, the answer finds the branch of the last request, or the one of before. Behind all of them it is
-- that of the last request.
abbrev pub BranchFollows : Type 0
BranchFollows =
    (when (contacts_of Com) (λ e. 1) 0 0 requests_first ≡ 1)
    × (when (contacts_of Com) (λ e. 1) 0 0 answer_first ≡ 0)
    × (behind (contacts_of Com) (λ e. 1) 0 (2 ∷ 1 ∷ 0 ∷ []) ≡ 0)
    × (behind (contacts_of Com) (λ e. 1) 0 answer_first ≡ 1)

-- Cells 2 and 3 are the branch behind either request. Cell 4 asks the source, and its answer goes out of the last two cells: by
-- cell 3 where requests come first, and by the register where the answer does.
abbrev pub CommandIsLaid : Type 0
CommandIsLaid =
    (b : ℕ) (i : Incoming)
    → fast_cells (contacts_of Com) requests_first b i
    ≡ bit (Const 0)
    ∷ bit (Reg (b + 3))
    ∷ bit (Mux (i.pulse 1) (b + 0) (b + 1))
    ∷ bit (Or (b + 2) (i.pulse 2))
    ∷ bit (Or (i.pulse 1) (i.pulse 2))
    ∷ bit (Mux (b + 3) (b + 0) (i.pulse 0))
    ∷ bit (And (i.pulse 0) (b + 3)) ∷ []

abbrev pub AnswerIsLaid : Type 0
AnswerIsLaid =
    (b : ℕ) (i : Incoming)
    → fast_cells (contacts_of Com) answer_first b i
    ≡ bit (Const 0)
    ∷ bit (Reg (b + 3))
    ∷ bit (Mux (i.pulse 1) (b + 0) (b + 1))
    ∷ bit (Or (b + 2) (i.pulse 2))
    ∷ bit (Or (i.pulse 1) (i.pulse 2))
    ∷ bit (Mux (b + 1) (b + 0) (i.pulse 0))
    ∷ bit (And (i.pulse 0) (b + 1)) ∷ []

-- By these ranks the requests come first, and the gates that are made for this order keep the laws.
abbrev pub RequestsAreFirst : Type 0
RequestsAreFirst = IsByRank Com requests_first last_first

abbrev pub AnswerIsNotFirst : Type 0
AnswerIsNotFirst = IsByRank Com answer_first last_first → ⊥

abbrev pub CommandKeeps : Type 0
CommandKeeps = FastGates Com requests_first last_first

-- Those that are made for the other order don't: caller 1 asks and the source answers in one cycle, and the answer goes to caller 0.
abbrev pub OtherOrderFails : Type 0
OtherOrderFails = FastLaw Com answer_first last_first → ⊥

-- No one order is right for each plan. Here caller 1 asks for the command, and then caller 0 for the expression, as the
-- answer of a part may make it do in the same cycle. Gates that take all requests by number leave the branch at caller 1.
abbrev pub fourth_first : Order
fourth_first h = if nat_eq h 4 then 0 else 1

abbrev pub FixedOrderFails : Type 0
FixedOrderFails = FastLaw (Pair Com (Exp 1)) (2 ∷ 3 ∷ 4 ∷ 5 ∷ 0 ∷ 1 ∷ []) fourth_first → ⊥

-- Where the answer of the source comes last, a request of a caller leads on to what goes out to this caller. So who answers in the same
-- cycle would close a ring, and the source's end, which may have no joint, can't simply be last.
abbrev pub LastAnswerLoops : Type 0
LastAnswerLoops = (fast_passing (contacts_of Com) requests_first 1 1 ≡ true) × (fast_passing (contacts_of Com) answer_first 1 1 ≡ false)
