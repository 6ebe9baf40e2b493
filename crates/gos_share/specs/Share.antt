-- The gates of a Share: a row of blocks, one for each handshake of its type, and the branch.
--
-- Read first: Blocks. Cell 0 is a register that holds the branch, cell 1 its complement and cell 2 a 0. Then come
-- the blocks, and the last cell is the branch after this cycle: 1 where caller 1 asked, else 0 where caller 0 did,
-- and else as it was. All requests are late, and all answers are passed at once, by the branch of before.
use Rattle.std.specs.Prelude.{◌≡◌, ◌≤◌, ℕ, Bool, false, ◌&&◌, ◌||◌, zero, suc, ◌+◌, List, [], ◌∷◌, ◌++◌, length, nat_eq, if◌then◌else◌}
use Rattle.gos_types.specs.declared.shakes.Role.{Role}
use Rattle.gos_types.specs.declared.shakes.Role.TheVariants.{Serve, Ask}
use Rattle.gos_netlist.specs.Nets.{Cell, Const, Not, Or, Reg}
use Rattle.gos_netlist.specs.Settling.{Numbers, at}
use Rattle.gos_plan.specs.Kinds.{Contact, other_side}
use Rattle.gos_plan.specs.Firing.{Rest, State, Slot, Req, Token, put}
use Rattle.gos_macro.specs.Gates.{Incoming, Outgoing}
use Rattle.gos_macro.specs.Cells.{bit}
use Rattle.gos_share.specs.Blocks.{block_cells, block_size, kept_net, source_out, caller_out}

-- the place behind the blocks of these handshakes, where the first of them begins at n
abbrev pub place_behind : ℕ → List Contact → ℕ
place_behind n [] = n
place_behind n (k ∷ ks) = place_behind (n + block_size k.role k.ask_bits k.answer_bits) ks

-- the blocks from handshake j of the type on, which has h of them, and the last cell; c and d are the branch's nets
abbrev pub row_cells : Incoming → ℕ → ℕ → ℕ → ℕ → ℕ → ℕ → List Contact → List Cell
row_cells i h j b n c d [] = bit (Or c d) ∷ []
row_cells i h j b n c d (k ∷ ks) =
    block_cells k.role k.ask_bits k.answer_bits i h j b n c d
    ++ row_cells i h (suc j) b (n + block_size k.role k.ask_bits k.answer_bits) (kept_net k.role (b + (n + 0)) c) (kept_net k.role (b + (n + 1)) d) ks

-- all cells, for the handshakes of the type
abbrev pub share_cells : List Contact → ℕ → Incoming → List Cell
share_cells ks b i =
    bit (Reg (b + place_behind 3 ks))
    ∷ bit (Not (b + 0))
    ∷ bit (Const 0)
    ∷ row_cells i (length ks) 0 b 3 (b + 0) (b + 2) ks

-- the nets that go out at the source's side, and at that of a caller
abbrev pub source_outs : ℕ → ℕ → List Contact → List Outgoing
source_outs b n [] = []
source_outs b n (k ∷ ks) =
    source_out k.role k.ask_bits k.answer_bits b n ∷ source_outs b (n + block_size k.role k.ask_bits k.answer_bits) ks

abbrev pub caller_outs : ℕ → ℕ → ℕ → List Contact → List Outgoing
caller_outs caller b n [] = []
caller_outs caller b n (k ∷ ks) =
    caller_out caller k.role k.ask_bits k.answer_bits b n
    ∷ caller_outs caller b (n + block_size k.role k.ask_bits k.answer_bits) ks

abbrev pub share_outs : List Contact → ℕ → List Outgoing
share_outs ks b = source_outs b 3 ks ++ (caller_outs 0 b 3 ks ++ caller_outs 1 b 3 ks)

-- the handshakes of a list that are served, from number h on
abbrev pub served_at : Role → ℕ → List ℕ
served_at Serve h = h ∷ []
served_at Ask h = []

abbrev pub served_from : ℕ → List Contact → List ℕ
served_from h [] = []
served_from h (k ∷ ks) = served_at k.role h ++ served_from (suc h) ks

-- requests are late
abbrev pub share_late : List Contact → List ℕ
share_late ks = served_from 0 (other_side ks ++ (ks ++ ks))

-- the request that a register holds, with the number in another one where it has bits
abbrev pub number_of : ℕ → ℕ → ℕ
number_of zero a = 0
number_of (suc w) a = a

abbrev pub held_number : ℕ → Slot → ℕ → ℕ → List Token
held_number w s m a = if nat_eq m 1 then put s (number_of w a) ∷ [] else []

abbrev pub block_pending : Role → ℕ → ℕ → ℕ → ℕ → ℕ → Numbers → List Token
block_pending Serve q h j b n regs = held_number q (Req j) (at regs (b + (n + 2 + 1))) (at regs (b + (n + 2 + 3)))
block_pending Ask q h j b n regs =
    held_number q (Req (h + j)) (at regs (b + (n + 2))) (at regs (b + (n + 4)))
    ++ held_number q (Req (h + h + j)) (at regs (b + (n + 3))) (at regs (b + (n + 4)))

abbrev pub row_pending : ℕ → ℕ → ℕ → ℕ → Numbers → List Contact → List Token
row_pending h j b n regs [] = []
row_pending h j b n regs (k ∷ ks) =
    block_pending k.role k.ask_bits h j b n regs
    ++ row_pending h (suc j) b (n + block_size k.role k.ask_bits k.answer_bits) regs ks

-- what registers hold to be put out
abbrev pub share_pending : List Contact → ℕ → Numbers → List Token
share_pending ks b regs = row_pending (length ks) 0 b 3 regs ks

-- registers of pulses hold at most 1
abbrev pub BlockHolds : Role → ℕ → ℕ → Numbers → Type 0
BlockHolds Serve b n regs = at regs (b + (n + 2 + 1)) ≤ 1
BlockHolds Ask b n regs = (at regs (b + (n + 2)) ≤ 1) × (at regs (b + (n + 3)) ≤ 1)

abbrev pub RowHolds : ℕ → ℕ → Numbers → List Contact → Type 0
RowHolds b n regs [] = Unit {0}
RowHolds b n regs (k ∷ ks) = BlockHolds k.role b n regs × RowHolds b (n + block_size k.role k.ask_bits k.answer_bits) regs ks

-- a Share is at rest, and its number is the branch
pub record ShareStands (ks : List Contact) (b : ℕ) (regs : Numbers) (q : State) : Type 0 where
  pub rests : q.phase ≡ Rest
  pub branch : q.number ≡ at regs (b + 0)
  pub one : at regs (b + 0) ≤ 1
  pub held : RowHolds b 3 regs ks

-- Whether what comes in at one handshake goes out at another in the same cycle. An answer of the source at its handshake j
-- goes on at j of both callers' sides, and an answer of a caller at the source's. Requests wait for the next cycle.
abbrev pub block_passing : Role → ℕ → ℕ → ℕ → ℕ → Bool
block_passing Serve h j from to = nat_eq from j && (nat_eq to (h + j) || nat_eq to (h + h + j))
block_passing Ask h j from to = nat_eq to j && (nat_eq from (h + j) || nat_eq from (h + h + j))

abbrev pub row_passing : ℕ → ℕ → List Contact → ℕ → ℕ → Bool
row_passing h j [] from to = false
row_passing h j (k ∷ ks) from to = block_passing k.role h j from to || row_passing h (suc j) ks from to

abbrev pub share_passing : List Contact → ℕ → ℕ → Bool
share_passing ks = row_passing (length ks) 0 ks
