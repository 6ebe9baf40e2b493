-- The gates of each kind: what is placed, and what its registers stand for. What it means is the law, in gos_macro.
--
-- Read first: Law of gos_macro; Lit, Op, Not, Assign, Deref, Local, Array. Of other kinds nothing is said here.
use Rattle.std.specs.Prelude.{ℕ, Bool, List, [], ◌∷◌}
use Rattle.gos_netlist.specs.Nets.{Cell}
use Rattle.gos_netlist.specs.Settling.{Numbers}
use Rattle.gos_plan.specs.Kinds.{Part, Lit, Op, Not, Assign, Deref, Local, Array}
use Rattle.gos_plan.specs.Firing.{State, Token}
use Rattle.gos_macro.specs.Gates.{Incoming, Outgoing, nothing_pending}
use Rattle.gos_macro.specs.Paths.{is_pair}
use Rattle.gos_data.specs.Lit.{lit_cells, lit_outs, lit_stands}
use Rattle.gos_data.specs.Op.{op_cells, op_outs, OpStands}
use Rattle.gos_data.specs.Waiting.{waiting_stands}
use Rattle.gos_data.specs.Not.{not_cells, not_outs}
use Rattle.gos_data.specs.Assign.{assign_cells, assign_outs, assign_stands}
use Rattle.gos_data.specs.Deref.{deref_cells, deref_outs}
use Rattle.gos_data.specs.Local.{local_cells, local_outs, local_late, local_pending, LocalStands}
use Rattle.gos_data.specs.Array.{array_cells, array_outs, array_late, array_pending, ArrayStands}

-- the cells of a part, from the first one's number and the nets that come in
abbrev pub layout : Part → ℕ → Incoming → List Cell
layout (Lit w k) = lit_cells w k
layout (Op op w) = op_cells op w
layout (Not w) = not_cells w
layout (Assign w) = λ b. assign_cells w
layout (Deref w) = λ b. deref_cells w
layout (Local w v) = local_cells w v
layout (Array w n v) = array_cells w n v
layout k = λ b i. []

-- the nets that go out of it
abbrev pub outs_of : Part → ℕ → List Outgoing
outs_of (Lit w k) = lit_outs
outs_of (Op op w) = op_outs
outs_of (Not w) = not_outs
outs_of (Assign w) = assign_outs
outs_of (Deref w) = deref_outs
outs_of (Local w v) = local_outs v
outs_of (Array w n v) = array_outs n v
outs_of k = λ b. []

-- the handshakes at which what comes in is late
abbrev pub late_of : Part → List ℕ
late_of (Local w v) = local_late
late_of (Array w n v) = array_late
late_of k = []

-- what registers hold to be put out
abbrev pub pending_of : Part → ℕ → Numbers → List Token
pending_of (Local w v) = local_pending
pending_of (Array w n v) = array_pending
pending_of k = nothing_pending

-- which states registers stand for
abbrev pub stands_of : Part → ℕ → Numbers → State → Type 0
stands_of (Lit w k) = lit_stands
stands_of (Op op w) = OpStands
stands_of (Not w) = waiting_stands
stands_of (Assign w) = assign_stands
stands_of (Deref w) = waiting_stands
stands_of (Local w v) = LocalStands
stands_of (Array w n v) = ArrayStands n
stands_of k = λ b regs q. ⊥

-- from which handshake to which a path without registers leads
abbrev pub passing_of : Part → ℕ → ℕ → Bool
passing_of (Lit w k) = is_pair ((0, 0) ∷ [])
passing_of (Op op w) = is_pair ((0, 1) ∷ (0, 2) ∷ (1, 2) ∷ (2, 0) ∷ [])
passing_of (Not w) = is_pair ((0, 1) ∷ (1, 0) ∷ [])
passing_of (Assign w) = is_pair ((0, 1) ∷ (1, 2) ∷ (2, 0) ∷ [])
passing_of (Deref w) = is_pair ((0, 1) ∷ (1, 0) ∷ [])
passing_of (Local w v) = is_pair ((0, 3) ∷ (1, 1) ∷ [])
passing_of (Array w n v) = is_pair ((0, 4) ∷ [])
passing_of k = is_pair []
