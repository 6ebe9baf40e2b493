-- The gates of a Share that is made for an order of its handshakes, by part: what is placed, and what its registers stand for.
-- What that means is the law, in gos_macro.
--
-- Read first: Law of gos_macro; Fast. Of other kinds nothing is said here.
use Rattle.std.specs.Prelude.{ℕ, Bool, false, List, []}
use Rattle.gos_netlist.specs.Nets.{Cell}
use Rattle.gos_netlist.specs.Settling.{Numbers}
use Rattle.gos_plan.specs.Kinds.{Part, Share, contacts_of}
use Rattle.gos_plan.specs.Firing.{State, Token}
use Rattle.gos_macro.specs.Gates.{Incoming, Outgoing, nothing_pending}
use Rattle.gos_fast_share.specs.Fast.{fast_cells, fast_outs, fast_passing, FastStands}

-- the cells of a part, from the number of the first one and the nets that come in
abbrev pub layout : List ℕ → Part → ℕ → Incoming → List Cell
layout order (Share t) = fast_cells (contacts_of t) order
layout order k = λ b i. []

-- the nets that go out of them
abbrev pub outs_of : List ℕ → Part → ℕ → List Outgoing
outs_of order (Share t) = fast_outs (contacts_of t) order
outs_of order k = λ b. []

-- the handshakes at which what comes in is late: none
abbrev pub late_of : List ℕ → Part → List ℕ
late_of order k = []

-- what registers hold to be put out: nothing
abbrev pub pending_of : List ℕ → Part → ℕ → Numbers → List Token
pending_of order k = nothing_pending

-- which states registers stand for
abbrev pub stands_of : List ℕ → Part → ℕ → Numbers → State → Type 0
stands_of order (Share t) = FastStands
stands_of order k = λ b regs q. ⊥

-- from which handshake to which a path without registers leads
abbrev pub passing_of : List ℕ → Part → ℕ → ℕ → Bool
passing_of order (Share t) = fast_passing (contacts_of t) order
passing_of order k = λ from to. false
