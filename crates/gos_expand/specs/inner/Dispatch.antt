-- The gates of a part as the program holds them, and the laws that they keep.
--
-- Read first: Gates; Kept of gos_macro, and those of gos_control, gos_data, gos_share and gos_fast_share.
use Rattle.std.specs.Prelude.{ℕ, Bool, List}
use Rattle.gos_netlist.specs.Nets.{Cell}
use Rattle.gos_netlist.specs.Settling.{Numbers}
use Rattle.gos_types.specs.Types.{type_of}
use Rattle.gos_types.specs.declared.types.Ty.{Ty}
use Rattle.gos_plan.specs.declared.kinds.Kind.{Kind}
use Rattle.gos_plan.specs.declared.kinds.Kind.TheVariants as kinds
use Rattle.gos_plan.specs.Seen.{part_of}
use Rattle.gos_plan.specs.Kinds.{Part, Share}
use Rattle.gos_plan.specs.Firing.{State, Token}
use Rattle.gos_macro.specs.Gates.{Incoming, Outgoing}
use Rattle.gos_plan.specs.Ranges.{IsSmall}
use Rattle.gos_macro.specs.Law.{Order}
use Rattle.gos_macro.specs.Kept.{KeepLaws}
use Rattle.gos_macro.specs.Fit.{GatesFit}
use Rattle.gos_macro.specs.Paths.{KeepPaths}
use Rattle.gos_control.specs.Layout as control
use Rattle.gos_control.specs.Ranges.{IsControl}
use Rattle.gos_control.specs.laws.Kept.{control_gates}
use Rattle.gos_control.specs.laws.Paths.{control_paths}
use Rattle.gos_data.specs.Layout as arith
use Rattle.gos_data.specs.Ranges.{IsArith}
use Rattle.gos_data.specs.laws.Kept.{arith_gates}
use Rattle.gos_data.specs.laws.Paths.{arith_paths}
use Rattle.gos_share.specs.Layout as sharing
use Rattle.gos_share.specs.laws.Kept.{share_gates}
use Rattle.gos_share.specs.laws.Paths.{share_paths}
use Rattle.gos_fast_share.specs.Layout as fast
use Rattle.gos_fast_share.specs.Order.{IsByRank, IsMade}
use Rattle.gos_fast_share.specs.laws.Kept.{fast_gates, fast_fits}
use Rattle.gos_fast_share.specs.laws.Paths.{fast_paths}
use Rattle.gos_expand.specs.Gates.{Making, ForEach, ForOrder}
use Rattle.gos_expand.specs.declared.gates.Gates.{Gates}
use Rattle.gos_expand.specs.declared.gates.Gates.TheVariants as held

-- the gates of a Share, and of a kind
abbrev pub sharing_for : Making → Ty → Gates
sharing_for ForEach t = held.Shares t
sharing_for (ForOrder order) t = held.Threads (record { ty = t; order = order })

abbrev pub gates_for : Making → Kind → Gates
gates_for m kinds.Skip = held.Controls kinds.Skip
gates_for m kinds.Seq = held.Controls kinds.Seq
gates_for m (kinds.SeqExp w) = held.Controls (kinds.SeqExp w)
gates_for m kinds.Par = held.Controls kinds.Par
gates_for m kinds.If = held.Controls kinds.If
gates_for m (kinds.IfExp w) = held.Controls (kinds.IfExp w)
gates_for m kinds.While = held.Controls kinds.While
gates_for m (kinds.Share t) = sharing_for m t
gates_for m k = held.Computes k

-- the part that they are the gates of
abbrev pub part_in : Gates → Part
part_in (held.Controls k) = part_of k
part_in (held.Computes k) = part_of k
part_in (held.Shares t) = Share (type_of t)
part_in (held.Threads s) = Share (type_of s.ty)

-- what the crates that lay them out say of them
abbrev pub cells_in : Gates → ℕ → Incoming → List Cell
cells_in (held.Controls k) = control.layout (part_of k)
cells_in (held.Computes k) = arith.layout (part_of k)
cells_in (held.Shares t) = sharing.layout (Share (type_of t))
cells_in (held.Threads s) = fast.layout s.order (Share (type_of s.ty))

abbrev pub outs_in : Gates → ℕ → List Outgoing
outs_in (held.Controls k) = control.outs_of (part_of k)
outs_in (held.Computes k) = arith.outs_of (part_of k)
outs_in (held.Shares t) = sharing.outs_of (Share (type_of t))
outs_in (held.Threads s) = fast.outs_of s.order (Share (type_of s.ty))

abbrev pub late_in : Gates → List ℕ
late_in (held.Controls k) = control.late_of (part_of k)
late_in (held.Computes k) = arith.late_of (part_of k)
late_in (held.Shares t) = sharing.late_of (Share (type_of t))
late_in (held.Threads s) = fast.late_of s.order (Share (type_of s.ty))

abbrev pub pending_in : Gates → ℕ → Numbers → List Token
pending_in (held.Controls k) = control.pending_of (part_of k)
pending_in (held.Computes k) = arith.pending_of (part_of k)
pending_in (held.Shares t) = sharing.pending_of (Share (type_of t))
pending_in (held.Threads s) = fast.pending_of s.order (Share (type_of s.ty))

abbrev pub stands_in : Gates → ℕ → Numbers → State → Type 0
stands_in (held.Controls k) = control.stands_of (part_of k)
stands_in (held.Computes k) = arith.stands_of (part_of k)
stands_in (held.Shares t) = sharing.stands_of (Share (type_of t))
stands_in (held.Threads s) = fast.stands_of s.order (Share (type_of s.ty))

abbrev pub passing_in : Gates → ℕ → ℕ → Bool
passing_in (held.Controls k) = control.passing_of (part_of k)
passing_in (held.Computes k) = arith.passing_of (part_of k)
passing_in (held.Shares t) = sharing.passing_of (Share (type_of t))
passing_in (held.Threads s) = fast.passing_of s.order (Share (type_of s.ty))

abbrev pub IsLaidOut : Gates → Type 0
IsLaidOut (held.Controls k) = IsControl k
IsLaidOut (held.Computes k) = IsArith k
IsLaidOut (held.Shares t) = IsSmall t
IsLaidOut (held.Threads s) = IsMade s

-- in which orders of handshakes they do: in each, unless they are made for one
abbrev pub Suits : Gates → Order → Type 0
Suits (held.Controls k) rank = Unit {0}
Suits (held.Computes k) rank = Unit {0}
Suits (held.Shares t) rank = Unit {0}
Suits (held.Threads s) rank = IsByRank (type_of s.ty) s.order rank

-- they keep the laws
pub gates_keep : (g : Gates) → IsLaidOut g → (rank : Order) → Suits g rank
    → KeepLaws (part_in g) (cells_in g) (outs_in g) (late_in g) (pending_in g) (stands_in g) rank
gates_keep (held.Controls k) is rank suits = control_gates k is rank
gates_keep (held.Computes k) is rank suits = arith_gates k is rank
gates_keep (held.Shares t) is rank suits = share_gates t is rank
gates_keep (held.Threads s) is rank suits = fast_gates s.ty s.order rank is.0 suits

-- and in a netlist what is asked of an accepted one, whatever the order
pub gates_fit : (g : Gates) → IsLaidOut g → GatesFit (part_in g) (cells_in g) (outs_in g)
gates_fit (held.Controls k) is = (control_gates k is (λ h. 0)).fits
gates_fit (held.Computes k) is = (arith_gates k is (λ h. 0)).fits
gates_fit (held.Shares t) is = (share_gates t is (λ h. 0)).fits
gates_fit (held.Threads s) is = fast_fits s.ty s.order is.0

-- and what is asked of paths
pub gates_pass : (g : Gates) → IsLaidOut g → KeepPaths (part_in g) (cells_in g) (outs_in g) (late_in g) (passing_in g)
gates_pass (held.Controls k) is = control_paths k is
gates_pass (held.Computes k) is = arith_paths k is
gates_pass (held.Shares t) is = share_paths t is
gates_pass (held.Threads s) is = fast_paths s.ty s.order
