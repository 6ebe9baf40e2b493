-- The gates of every kind of part, whichever crate lays them out.
--
-- Read first: Gates and Law of gos_macro; Layout of gos_control, of gos_data and of gos_share; Fast of gos_fast_share. A Share
-- may be made for one order of its handshakes. All other gates are the same whatever order is asked for.
use Rattle.std.specs.Prelude.{ℕ, Bool, List, length}
use Rattle.gos_netlist.specs.Nets.{Cell}
use Rattle.gos_netlist.specs.Settling.{Numbers}
use Rattle.gos_plan.specs.Kinds.{Part, Skip, Seq, Par, If, While, Share}
use Rattle.gos_plan.specs.Firing.{State, Token}
use Rattle.gos_macro.specs.Gates.{Incoming, Outgoing}
use Rattle.gos_control.specs.Layout as control
use Rattle.gos_data.specs.Layout as arith
use Rattle.gos_share.specs.Layout as sharing
use Rattle.gos_fast_share.specs.Layout as fast

-- For which order of its handshakes the gates of a part are made: for none, so that they do in each; or for this one.
pub data Making : Type 0 where
  ForEach : Making
  ForOrder : (order : List ℕ) → Making

-- the crate that lays a kind out
pub data Family : Type 0 where
  Controls Computes Shares : Family
  Threads : (order : List ℕ) → Family

abbrev pub sharing_family : Making → Family
sharing_family ForEach = Shares
sharing_family (ForOrder order) = Threads order

abbrev pub family : Making → Part → Family
family m Skip = Controls
family m (Seq v) = Controls
family m Par = Controls
family m (If v) = Controls
family m While = Controls
family m (Share t) = sharing_family m
family m k = Computes

-- the cells of a part, from the number of the first one and the nets that come in
abbrev pub layout_by : Family → Part → ℕ → Incoming → List Cell
layout_by Controls = control.layout
layout_by Computes = arith.layout
layout_by Shares = sharing.layout
layout_by (Threads order) = fast.layout order

abbrev pub layout : Making → Part → ℕ → Incoming → List Cell
layout m k = layout_by (family m k) k

-- the nets that go out of them
abbrev pub outs_by : Family → Part → ℕ → List Outgoing
outs_by Controls = control.outs_of
outs_by Computes = arith.outs_of
outs_by Shares = sharing.outs_of
outs_by (Threads order) = fast.outs_of order

abbrev pub outs_of : Making → Part → ℕ → List Outgoing
outs_of m k = outs_by (family m k) k

-- the handshakes at which what comes in is late
abbrev pub late_by : Family → Part → List ℕ
late_by Controls = control.late_of
late_by Computes = arith.late_of
late_by Shares = sharing.late_of
late_by (Threads order) = fast.late_of order

abbrev pub late_of : Making → Part → List ℕ
late_of m k = late_by (family m k) k

-- what registers hold to be put out
abbrev pub pending_by : Family → Part → ℕ → Numbers → List Token
pending_by Controls = control.pending_of
pending_by Computes = arith.pending_of
pending_by Shares = sharing.pending_of
pending_by (Threads order) = fast.pending_of order

abbrev pub pending_of : Making → Part → ℕ → Numbers → List Token
pending_of m k = pending_by (family m k) k

-- which states registers stand for
abbrev pub stands_by : Family → Part → ℕ → Numbers → State → Type 0
stands_by Controls = control.stands_of
stands_by Computes = arith.stands_of
stands_by Shares = sharing.stands_of
stands_by (Threads order) = fast.stands_of order

abbrev pub stands_of : Making → Part → ℕ → Numbers → State → Type 0
stands_of m k = stands_by (family m k) k

-- from which handshake to which a path without registers leads
abbrev pub passing_by : Family → Part → ℕ → ℕ → Bool
passing_by Controls = control.passing_of
passing_by Computes = arith.passing_of
passing_by Shares = sharing.passing_of
passing_by (Threads order) = fast.passing_of order

abbrev pub passing_of : Making → Part → ℕ → ℕ → Bool
passing_of m k = passing_by (family m k) k

-- how many cells a part has, wherever they stand and whatever comes in
abbrev pub part_size : Making → Part → ℕ
part_size m k = length (layout m k 0 (record { pulse = λ h. 0; value = λ h. 0 }))
