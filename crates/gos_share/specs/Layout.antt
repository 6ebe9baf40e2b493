-- The gates of a Share, by part: what is placed, and what its registers stand for. What that means is the law, in
-- gos_plan.
--
-- Read first: Law of gos_macro; Share. Of the kinds of other crates nothing is said here.
use Rattle.std.specs.Prelude.{ℕ, Bool, false, List, []}
use Rattle.gos_netlist.specs.Nets.{Cell}
use Rattle.gos_netlist.specs.Settling.{Numbers}
use Rattle.gos_plan.specs.Kinds.{Part, Share, contacts_of}
use Rattle.gos_plan.specs.Firing.{State, Token}
use Rattle.gos_macro.specs.Gates.{Incoming, Outgoing, nothing_pending}
use Rattle.gos_share.specs.Share.{share_cells, share_outs, share_late, share_pending, share_passing, ShareStands}

-- the cells of a part, from the number of the first one and the nets that come in
abbrev pub layout : Part → ℕ → Incoming → List Cell
layout (Share t) = share_cells (contacts_of t)
layout k = λ b i. []

-- the nets that go out of them
abbrev pub outs_of : Part → ℕ → List Outgoing
outs_of (Share t) = share_outs (contacts_of t)
outs_of k = λ b. []

-- the handshakes at which what comes in is late
abbrev pub late_of : Part → List ℕ
late_of (Share t) = share_late (contacts_of t)
late_of k = []

-- what registers hold to be put out
abbrev pub pending_of : Part → ℕ → Numbers → List Token
pending_of (Share t) = share_pending (contacts_of t)
pending_of k = nothing_pending

-- which states registers stand for
abbrev pub stands_of : Part → ℕ → Numbers → State → Type 0
stands_of (Share t) = ShareStands (contacts_of t)
stands_of k = λ b regs q. ⊥

-- from which handshake to which a path without registers leads
abbrev pub passing_of : Part → ℕ → ℕ → Bool
passing_of (Share t) = share_passing (contacts_of t)
passing_of k = λ from to. false
