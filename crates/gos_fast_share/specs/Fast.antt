-- The gates of a Share by order: the branch is threaded through what comes in, in the order of the handshakes.
--
-- Read first: Thread; Blocks of gos_share. Cell 0 is a 0, and cell 1 a register that holds the branch. Behind it stands a cell
-- for each request of a caller, in the order of the handshakes: it is the branch behind this request. Then come the blocks, one
-- for each handshake of the type, and each uses the branch that there is when its source's side comes. No request is held for
-- a cycle, so nothing is late, and nothing is pending.
use Rattle.std.specs.Prelude.{◌≡◌, ◌≤◌, ℕ, Bool, true, false, ◌&&◌, ◌||◌, zero, suc, ◌+◌, List, [], ◌∷◌, ◌++◌, length, nat_eq}
use Rattle.gos_types.specs.declared.shakes.Role.{Role}
use Rattle.gos_types.specs.declared.shakes.Role.TheVariants.{Serve, Ask}
use Rattle.gos_netlist.specs.Nets.{Cell, Const, And, Or, Mux, Gate, Reg}
use Rattle.gos_netlist.specs.Settling.{Numbers, at}
use Rattle.gos_plan.specs.Kinds.{Contact}
use Rattle.gos_plan.specs.Firing.{Rest, State}
use Rattle.gos_macro.specs.Gates.{Incoming, Outgoing}
use Rattle.gos_macro.specs.Cells.{bit, wide}
use Rattle.gos_share.specs.Blocks.{outgoing, told_cells, told_size}
use Rattle.gos_fast_share.specs.Thread.{Asker, Nobody, Caller0, Caller1, asker, one_if_asks, requests, requests_before, stands_before}

-- The branch behind a request, where it was the net at place n before: 0 behind one of caller 0, and 1 behind one of caller 1.
abbrev pub set_cells : Asker → ℕ → ℕ → ℕ → List Cell
set_cells Nobody pulse b n = []
set_cells Caller0 pulse b n = bit (Mux pulse (b + 0) (b + n)) ∷ []
set_cells Caller1 pulse b n = bit (Or (b + n) pulse) ∷ []

-- the branch behind each request, where the net before them is at place n
abbrev pub thread_cells : List Contact → Incoming → ℕ → ℕ → List ℕ → List Cell
thread_cells ks i b n [] = []
thread_cells ks i b n (e ∷ es) = set_cells (asker ks e) (i.pulse e) b n ++ thread_cells ks i b (n + one_if_asks (asker ks e)) es

-- What comes in from the source at handshake j goes to the caller of the branch, which is net c.
abbrev pub split_cells : ℕ → Incoming → ℕ → ℕ → ℕ → ℕ → List Cell
split_cells zero i j b n c = bit (Mux c (b + 0) (i.pulse j)) ∷ bit (And (i.pulse j) c) ∷ []
split_cells (suc w) i j b n c =
    bit (Mux c (b + 0) (i.pulse j))
    ∷ bit (And (i.pulse j) c)
    ∷ wide (suc w) (Gate (b + (n + 0)) (i.value j))
    ∷ wide (suc w) (Gate (b + (n + 1)) (i.value j)) ∷ []

abbrev pub split_size : ℕ → ℕ
split_size zero = 2
split_size (suc w) = 4

-- the bits of what goes from the callers to the source at a handshake, and of what goes back
abbrev pub up_bits : Role → ℕ → ℕ → ℕ
up_bits Serve q a = q
up_bits Ask q a = a

abbrev pub down_bits : Role → ℕ → ℕ → ℕ
down_bits Serve q a = a
down_bits Ask q a = q

-- The cells of a handshake of this role, with q bits asked and a bits answered. What comes in from either caller goes to the
-- source; it is told as in the other gates of a Share.
abbrev pub block_cells : Role → ℕ → ℕ → Incoming → ℕ → ℕ → ℕ → ℕ → ℕ → List Cell
block_cells r q a i h j b n c =
    told_cells (up_bits r q a) i h j b n ++ split_cells (down_bits r q a) i j b (n + told_size (up_bits r q a)) c

abbrev pub block_size : Role → ℕ → ℕ → ℕ
block_size r q a = told_size (up_bits r q a) + split_size (down_bits r q a)

-- the blocks of handshakes ls of the type, from handshake j on
abbrev pub row_cells : List Contact → List ℕ → Incoming → ℕ → ℕ → ℕ → List Contact → List Cell
row_cells ks order i j b n [] = []
row_cells ks order i j b n (l ∷ ls) =
    block_cells l.role l.ask_bits l.answer_bits i (length ks) j b n (b + (1 + requests_before ks j order))
    ++ row_cells ks order i (suc j) b (n + block_size l.role l.ask_bits l.answer_bits) ls

-- all cells, for the handshakes of the type and the order of those of the Share
abbrev pub fast_cells : List Contact → List ℕ → ℕ → Incoming → List Cell
fast_cells ks order b i =
    bit (Const 0)
    ∷ bit (Reg (b + (1 + requests ks order)))
    ∷ (thread_cells ks i b 1 order ++ row_cells ks order i 0 b (2 + requests ks order) ks)

-- the nets that go out at the source's side, and at that of a caller
abbrev pub source_outs : ℕ → ℕ → List Contact → List Outgoing
source_outs b n [] = []
source_outs b n (k ∷ ks) =
    outgoing (up_bits k.role k.ask_bits k.answer_bits) (b + (n + 0)) (b + (n + 2))
    ∷ source_outs b (n + block_size k.role k.ask_bits k.answer_bits) ks

-- where what goes out to caller 0 and to caller 1 stands, behind what goes to the source
abbrev pub caller_out : ℕ → Role → ℕ → ℕ → ℕ → ℕ → Outgoing
caller_out zero r q a b n =
    outgoing (down_bits r q a) (b + (n + told_size (up_bits r q a) + 0)) (b + (n + told_size (up_bits r q a) + 2))
caller_out (suc c) r q a b n =
    outgoing (down_bits r q a) (b + (n + told_size (up_bits r q a) + 1)) (b + (n + told_size (up_bits r q a) + 3))

abbrev pub caller_outs : ℕ → ℕ → ℕ → List Contact → List Outgoing
caller_outs c b n [] = []
caller_outs c b n (k ∷ ks) =
    caller_out c k.role k.ask_bits k.answer_bits b n ∷ caller_outs c b (n + block_size k.role k.ask_bits k.answer_bits) ks

abbrev pub fast_outs : List Contact → List ℕ → ℕ → List Outgoing
fast_outs ks order b =
    source_outs b (2 + requests ks order) ks
    ++ (caller_outs 0 b (2 + requests ks order) ks ++ caller_outs 1 b (2 + requests ks order) ks)

-- a Share is at rest, and its number is the branch
pub record FastStands (b : ℕ) (regs : Numbers) (q : State) : Type 0 where
  pub rests : q.phase ≡ Rest
  pub branch : q.number ≡ at regs (b + 1)
  pub one : at regs (b + 1) ≤ 1

-- whether a request of a caller comes in at a handshake, before the source's side of handshake j
abbrev pub sets : Asker → Bool
sets Nobody = false
sets Caller0 = true
sets Caller1 = true

abbrev pub sets_before : List Contact → List ℕ → ℕ → ℕ → Bool
sets_before ks order j e = sets (asker ks e) && stands_before e j order

-- Whether what comes in at one handshake of the Share goes out at another in the same cycle, at the sides of handshake j of the
-- type. What comes in from a caller goes to the source, and what comes in from the source to both callers. So does a request
-- that comes before, since it sets the branch.
abbrev pub block_passing : ℕ → ℕ → Bool → ℕ → ℕ → Bool
block_passing h j before from to =
    (nat_eq to j && (nat_eq from (h + j) || nat_eq from (h + h + j)))
    || ((nat_eq to (h + j) || nat_eq to (h + h + j)) && (nat_eq from j || before))

abbrev pub row_passing : List Contact → List ℕ → ℕ → List Contact → ℕ → ℕ → Bool
row_passing ks order j [] from to = false
row_passing ks order j (l ∷ ls) from to =
    block_passing (length ks) j (sets_before ks order j from) from to || row_passing ks order (suc j) ls from to

abbrev pub fast_passing : List Contact → List ℕ → ℕ → ℕ → Bool
fast_passing ks order = row_passing ks order 0 ks
