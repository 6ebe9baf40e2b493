-- The gates of each kind keep the laws.
--
-- Read first: Layout, Ranges.
use Rattle.gos_plan.specs.declared.kinds.Kind.{Kind}
use Rattle.gos_plan.specs.declared.kinds.Kind.TheVariants as kinds
use Rattle.gos_plan.specs.Seen.{operation_of, part_of}
use Rattle.gos_macro.specs.Kept.{KeepLawsInEachOrder}
use Rattle.gos_data.specs.Layout.{layout, outs_of, late_of, pending_of, stands_of}
use Rattle.gos_data.specs.Ranges.{IsArith}
use Rattle.gos_data.specs.laws.LitKept.{lit_gates}
use Rattle.gos_data.specs.laws.OpKept.{op_gates}
use Rattle.gos_data.specs.laws.NotKept.{not_gates}
use Rattle.gos_data.specs.laws.AssignKept.{assign_gates}
use Rattle.gos_data.specs.laws.DerefKept.{deref_gates}
use Rattle.gos_data.specs.laws.LocalFit.{local_gates}
use Rattle.gos_data.specs.laws.ArrayFit.{array_gates}

pub arith_gates : (k : Kind) → IsArith k
    → KeepLawsInEachOrder (part_of k) (layout (part_of k)) (outs_of (part_of k)) (late_of (part_of k)) (pending_of (part_of k)) (stands_of (part_of k))
arith_gates (kinds.Lit w k) in_range = lit_gates w k in_range.0 in_range.1
arith_gates (kinds.Op op w) in_range = op_gates (operation_of op) w in_range
arith_gates (kinds.Not w) in_range = not_gates w in_range
arith_gates (kinds.Assign w) in_range = assign_gates w in_range
arith_gates (kinds.Deref w) in_range = deref_gates w in_range
arith_gates (kinds.Local w v) in_range = local_gates w v in_range.0 in_range.1
arith_gates (kinds.Array w n v) in_range = array_gates w n v in_range.0 in_range.1 in_range.2
arith_gates k in_range = absurd in_range
